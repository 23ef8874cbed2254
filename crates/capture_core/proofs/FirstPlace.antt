-- The first of the places that an iterator gives.
use Rattle.std.proofs.Common.{◌≡◌, ℕ, zero, suc, ◌+◌, Bool, List, [], ◌∷◌}
use Rattle.std.proofs.Common.{Option, Some, slice_index, arith}
use Rattle.memchr.specs.Find.{Passes, Nowhere, IsFirst, IsFirstByte, places_from, places, TakesFirst}

module _ (test : ℕ → Bool) (hay : List ℕ) where
  abbrev Passing : ℕ → Type 0
  Passing = Passes test hay

  none_from : (i n j : ℕ) → j ≡ i + n → places_from test hay i n ≡ [] → Nowhere Passing i j
  unfolding places_from
  none_from i zero j size e = grind arith
  none_from i (suc n) j size e = grind (arith, slice_index, none_from (i + 1) n j (omega (arith, size)))

  first_from : (i n j x : ℕ) (rest : List ℕ) → j ≡ i + n → places_from test hay i n ≡ x ∷ rest
      → IsFirst Passing i j (Some x)
  unfolding places_from
  first_from i zero j x rest size e = grind arith
  first_from i (suc n) j x rest size e = grind (arith, slice_index, first_from (i + 1) n j x rest (omega (arith, size)))

  -- the first place of an iterator that was not called before is the first in the haystack
  pub first_place : (s t : List ℕ) (r : Option ℕ) → s ≡ places test hay → TakesFirst s r t → IsFirstByte test hay r
  first_place s t r e h = grind (arith, none_from, first_from)
