-- Pairs of a key and a stamp, by which the lines of an index are sorted.
use Rattle.std.specs.Prelude.{◌≡◌, ℕ, List, []}
use Rattle.std.specs.Ordering.{nat_cmp, ordering_then}
use Rattle.std.specs.declared.cmp.Ordering.{Ordering}
use Rattle.std.specs.Cmp.Lexicographic.{slice_cmp}
use Rattle.cdxj_places.specs.Places.{PlaceValue}

-- a key and a stamp
abbrev pub Pair : Type 0
Pair = List ℕ × List ℕ

-- by key, then by stamp, each by its bytes
abbrev pub pair_cmp : Pair → Pair → Ordering
pair_cmp p q = ordering_then (slice_cmp nat_cmp p.0 q.0) (slice_cmp nat_cmp p.1 q.1)

-- its key is empty, so that no pair of a line is below it
abbrev pub IsLeast : Pair → Type 0
IsLeast p = p.0 ≡ []

-- the pair of a place
abbrev pub place_pair : PlaceValue → Pair
place_pair p = (p.key, p.stamp)
