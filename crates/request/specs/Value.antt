-- What a value spells, and a name judged.
use Rattle.std.specs.Prelude.{Bool, ◌&&◌, ◌||◌, not, List, [], ℕ, leb, ltb, length, Option, Some, None, false}
use Rattle.protocol.specs.Utf8.{name_right}
use Rattle.protocol.specs.Bytes.{if, all_within}
use Rattle.protocol.specs.Request.{decoded}
use Rattle.protocol.specs.declared.Validator.{Validator}
use Rattle.protocol.specs.declared.Validator.TheVariants as validator
use Rattle.query.specs.Place.{raw_in}
use Rattle.query.specs.declared.Place.{Place}
use Rattle.request.specs.declared.value.Spelling.{Spelling}
use Rattle.request.specs.declared.value.Value.{Value}
use Rattle.request.specs.declared.Rule.{Rule}
use Rattle.request.specs.declared.Rule.TheVariants as rule

-- the text that is spelled
abbrev pub text_of : Spelling → List ℕ
text_of v = decoded v.in_body v.raw.now

-- and of a value
abbrev pub spelled : {most : ℕ} → Value most → List ℕ
spelled v = text_of v.spelling

-- which values may stand, by a limit and a rule: plain text, any bytes, or a name
unfoldable pub right_by : ℕ → Rule → List ℕ → Bool
right_by most rule.Plain value = leb (length value) most && all_within 32 126 value
right_by most rule.Password value = leb (length value) most && all_within 0 255 value
right_by most rule.Username value = leb (length value) most && name_right value

-- a name judged by what was noted of it: none where it stands twice or its value may not stand, else what it spells
unfoldable pub judged_as : ℕ → Bool → Rule → List ℕ → Place → Option (List ℕ)
judged_as most in_body r q p = if (ltb 1 p.count || not (right_by most r (decoded in_body (raw_in q p)))) None (Some (decoded in_body (raw_in q p)))

-- the callback of a validator, which /cas/validate does not read
unfoldable pub callback_as : Validator → List ℕ → Place → Option (List ℕ)
callback_as validator.Plain q p = Some []
callback_as validator.Service q p = judged_as 200 false rule.Plain q p
callback_as validator.Proxy q p = judged_as 200 false rule.Plain q p

abbrev pub callback_in : Validator → List ℕ → Place → List ℕ
callback_in validator.Plain q p = []
callback_in validator.Service q p = raw_in q p
callback_in validator.Proxy q p = raw_in q p
