-- The months of a year: what is left to count at each turn is the whole.
use Rattle.calendar.proofs.Months.{Counting}
use Rattle.calendar.proofs.month_of.Given as goal

abbrev pub invariant-loop-month : goal.invariant-loop-month
invariant-loop-month l = Counting l.year l.day l.month l.left
