-- The start of a line's pair, as numbers that decide most comparisons.
use Rattle.std.specs.Prelude.{◌≡◌, ℕ, true, List, ◌∷◌, ◌++◌}
use Rattle.cdxj_places.specs.Abbreviated.{AreBytes, start_words}
use Rattle.cdxj_places.specs.Bytes.{space}
use Rattle.cdxj_places.specs.Pair.{is_key}
use Rattle.cdxj_places.specs.Pairs.{Pair}

-- a pair as it stands at the start of a line
abbrev pub pair_text : Pair → List ℕ
pair_text p = p.0 ++ space ∷ p.1

-- the two numbers of sixteen bytes each that the pair of a line begins with
abbrev pub IsStart : ℕ × ℕ → Pair → Type 0
IsStart start p = (start ≡ start_words 16 (pair_text p)) × AreBytes (pair_text p) × (is_key p.0 ≡ true)
