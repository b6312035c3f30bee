-- What the frame of an answer, that of a callback's outcome and that of a visit say, field by field.
use Rattle.std.specs.Prelude.{◌≡◌, List, ℕ, ltb, take, drop, slice_index}
use Rattle.std.specs.Int.{w64, from_le_bytes}
use Rattle.protocol.specs.Bytes.{if}
use Rattle.protocol.specs.declared.Method.TheVariants as method
use Rattle.lent.specs.Frames.{number_of, text_of, behind_text}
use Rattle.lent.specs.declared.asked.Request.{Request}
use Rattle.lent.specs.declared.callback.Callback.{Callback}
use Rattle.lent.specs.declared.question.Question.{Question}

-- the texts of an answer's frame, one behind the other
pub record Texts (s : List ℕ) (r : Request) : Type 0 where
  pub target : r.target.now ≡ text_of s
  pub body : r.body.now ≡ text_of (behind_text s)
  pub cookie : r.cookie.now ≡ text_of (behind_text (behind_text s))
  pub random : r.random.now ≡ text_of (behind_text (behind_text (behind_text s)))

pub record Asks (s : List ℕ) (r : Request) : Type 0 where
  pub method : r.method ≡ if (ltb 0 (slice_index s 0)) method.Post method.Get
  pub time : r.time ≡ from_le_bytes w64 (take 8 (drop 1 s))
  pub verdict : r.verdict ≡ ltb 0 (slice_index (drop 8 (drop 1 s)) 0)
  pub out : r.out ≡ number_of (drop 1 (drop 8 (drop 1 s)))
  pub cookie_out : r.cookie_out ≡ number_of (drop 4 (drop 1 (drop 8 (drop 1 s))))
  pub texts : Texts (drop 4 (drop 4 (drop 1 (drop 8 (drop 1 s))))) r

pub record Finishes (s : List ℕ) (c : Callback) : Type 0 where
  pub serial : c.serial ≡ number_of s
  pub good : c.good ≡ ltb 0 (slice_index (drop 4 s) 0)
  pub time : c.time ≡ from_le_bytes w64 (take 8 (drop 1 (drop 4 s)))
  pub out : c.out ≡ number_of (drop 8 (drop 1 (drop 4 s)))

pub record Questions (s : List ℕ) (q : Question) : Type 0 where
  pub number : q.number ≡ number_of s
  pub time : q.time ≡ from_le_bytes w64 (take 8 (drop 4 s))
  pub out : q.out ≡ number_of (drop 8 (drop 4 s))
  pub cookie : q.cookie.now ≡ text_of (drop 4 (drop 8 (drop 4 s)))
  pub random : q.random.now ≡ text_of (behind_text (drop 4 (drop 8 (drop 4 s))))
