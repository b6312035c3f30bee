-- Laws of the calendar's fast arithmetic and of its writers, and the worked dates.
pub mod Years
pub mod Months
pub mod Texts
pub mod Worked
