-- The result that goes with an answer of some length, where no cookie is written or cleared.
use Rattle.std.specs.Prelude.{false, ℕ}
use Rattle.protocol.specs.Answers.{status_of, serial_of}
use Rattle.protocol.specs.declared.Answer.{Answer}
use Rattle.protocol.specs.declared.Outcome.{Outcome}

unfoldable pub told_of : Answer → ℕ → Outcome
told_of a n =
    record {
      refusal = 0;
      answer = a;
      status = status_of a;
      length = n;
      cookie_length = 0;
      cookie_cleared = false;
      callback_serial = serial_of a;
    }
