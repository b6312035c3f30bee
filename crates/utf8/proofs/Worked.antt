-- Worked cases: RFC 3629's own examples, both sides of each edge, and bytes that spell no code point. Assumes nothing.
use mathlib.Core.Path.{◌≡◌, refl}
use mathlib.Core.Bool.{Bool, true, false}
use mathlib.Core.List.{List, [], ◌∷◌}
use Prim.Native.Nat.{ℕ}
use Rattle.protocol.specs.Utf8.{no_point, announced, with_tails, not_below, point_at, points_from, points, point_right, points_right, name_right}

-- the bytes spell these code points, and are a name or not
abbrev Spells : List ℕ → List ℕ → Bool → Type 0
Spells s ps right = (points s ≡ ps) × (name_right s ≡ right)

pub record Worked : Type 0 where
  -- the examples of RFC 3629, section 7
  pub inequality : Spells (0x41 ∷ 0xE2 ∷ 0x89 ∷ 0xA2 ∷ 0xCE ∷ 0x91 ∷ 0x2E ∷ []) (0x0041 ∷ 0x2262 ∷ 0x0391 ∷ 0x002E ∷ []) true
  pub korean : Spells (0xED ∷ 0x95 ∷ 0x9C ∷ 0xEA ∷ 0xB5 ∷ 0xAD ∷ 0xEC ∷ 0x96 ∷ 0xB4 ∷ []) (0xD55C ∷ 0xAD6D ∷ 0xC5B4 ∷ []) true
  pub japanese : Spells (0xE6 ∷ 0x97 ∷ 0xA5 ∷ 0xE6 ∷ 0x9C ∷ 0xAC ∷ 0xE8 ∷ 0xAA ∷ 0x9E ∷ []) (0x65E5 ∷ 0x672C ∷ 0x8A9E ∷ []) true
  pub stump_of_tree : Spells (0xEF ∷ 0xBB ∷ 0xBF ∷ 0xF0 ∷ 0xA3 ∷ 0x8E ∷ 0xB4 ∷ []) (0xFEFF ∷ 0x233B4 ∷ []) true
  -- both sides of each edge
  pub last_control : Spells (0x1F ∷ []) (0x1F ∷ []) false
  pub space : Spells (0x20 ∷ []) (0x20 ∷ []) true
  pub tilde : Spells (0x7E ∷ []) (0x7E ∷ []) true
  pub delete : Spells (0x7F ∷ []) (0x7F ∷ []) false
  pub first_of_two : Spells (0xC2 ∷ 0x80 ∷ []) (0x80 ∷ []) true
  pub last_of_two : Spells (0xDF ∷ 0xBF ∷ []) (0x7FF ∷ []) true
  pub first_of_three : Spells (0xE0 ∷ 0xA0 ∷ 0x80 ∷ []) (0x800 ∷ []) true
  pub before_surrogates : Spells (0xED ∷ 0x9F ∷ 0xBF ∷ []) (0xD7FF ∷ []) true
  pub first_surrogate : Spells (0xED ∷ 0xA0 ∷ 0x80 ∷ []) (0xD800 ∷ []) false
  pub last_surrogate : Spells (0xED ∷ 0xBF ∷ 0xBF ∷ []) (0xDFFF ∷ []) false
  pub after_surrogates : Spells (0xEE ∷ 0x80 ∷ 0x80 ∷ []) (0xE000 ∷ []) true
  pub last_of_three : Spells (0xEF ∷ 0xBF ∷ 0xBF ∷ []) (0xFFFF ∷ []) true
  pub first_of_four : Spells (0xF0 ∷ 0x90 ∷ 0x80 ∷ 0x80 ∷ []) (0x10000 ∷ []) true
  pub last_of_all : Spells (0xF4 ∷ 0x8F ∷ 0xBF ∷ 0xBF ∷ []) (0x10FFFF ∷ []) true
  pub past_the_last : Spells (0xF4 ∷ 0x90 ∷ 0x80 ∷ 0x80 ∷ []) (0x110000 ∷ []) false
  -- what spells no code point
  pub overlong_null : Spells (0xC0 ∷ 0x80 ∷ []) (no_point ∷ []) false
  pub overlong_slash : Spells (0xC0 ∷ 0xAF ∷ []) (no_point ∷ []) false
  pub overlong_three : Spells (0xE0 ∷ 0x80 ∷ 0x80 ∷ []) (no_point ∷ []) false
  pub overlong_four : Spells (0xF0 ∷ 0x80 ∷ 0x80 ∷ 0x80 ∷ []) (no_point ∷ []) false
  pub lone_tail : Spells (0x80 ∷ []) (no_point ∷ []) false
  pub cut_short : Spells (0xE2 ∷ 0x82 ∷ []) (no_point ∷ []) false
  pub cut_by_another : Spells (0xE2 ∷ 0x82 ∷ 0x41 ∷ []) (no_point ∷ []) false
  pub no_byte : Spells (0x100 ∷ []) (no_point ∷ []) false

pub worked : Worked
unfolding no_point announced with_tails not_below point_at points_from points point_right points_right name_right
worked =
    record {
      inequality = (refl, refl);
      korean = (refl, refl);
      japanese = (refl, refl);
      stump_of_tree = (refl, refl);
      last_control = (refl, refl);
      space = (refl, refl);
      tilde = (refl, refl);
      delete = (refl, refl);
      first_of_two = (refl, refl);
      last_of_two = (refl, refl);
      first_of_three = (refl, refl);
      before_surrogates = (refl, refl);
      first_surrogate = (refl, refl);
      last_surrogate = (refl, refl);
      after_surrogates = (refl, refl);
      last_of_three = (refl, refl);
      first_of_four = (refl, refl);
      last_of_all = (refl, refl);
      past_the_last = (refl, refl);
      overlong_null = (refl, refl);
      overlong_slash = (refl, refl);
      overlong_three = (refl, refl);
      overlong_four = (refl, refl);
      lone_tail = (refl, refl);
      cut_short = (refl, refl);
      cut_by_another = (refl, refl);
      no_byte = (refl, refl);
    }
