-- Bytes of a source that are held.
use Rattle.std.specs.Prelude.{◌≡◌, ℕ, ◌+◌, ◌-◌, ◌≤◌, List, [], length, take, drop, cond, nat_lt, Option, Some}

-- these are the bytes of a source from the offset `at` on, as far as they go, and no more than a piece
pub record AreBytesAt (text : Option (List ℕ)) (extent at : ℕ) (held : List ℕ) : Type 0 where
  pub within : at + length held ≤ extent
  pub most : length held ≤ 8192
  pub bytes : (t : List ℕ) → text ≡ Some t → held ≡ take (length held) (drop at t)

-- bytes, and the offset of the first of them
pub record HeldBytes : Type 0 where
  pub at : ℕ
  pub bytes : List ℕ

-- those from an offset on; none if they begin after it
abbrev pub held_from : HeldBytes → ℕ → List ℕ
held_from w at = cond (nat_lt at w.at) [] (drop (at - w.at) w.bytes)

-- they are a source's bytes
abbrev pub Holds : Option (List ℕ) → ℕ → HeldBytes → Type 0
Holds text extent w = AreBytesAt text extent w.at w.bytes
