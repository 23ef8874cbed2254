-- How many lines share a pair.
use Rattle.std.specs.Prelude.{ℕ, ◌+◌, ◌≤◌, List, length, map, Bool, Option}
use Rattle.std.specs.List.{filter}
use Rattle.std.specs.Ordering.{is_eq}
use Rattle.cdxj_places.specs.Pairs.{Pair, pair_cmp}
use Rattle.cdxj_core.specs.Members.{Member, member_pair}
use Rattle.source_core.specs.declared.source.Source.{Ghosts}
use Rattle.merge_core.specs.Collections.{OverIndexes, all_lines}

-- the line has the pair
abbrev pub is_at : Pair → Member → Bool
is_at pair m = is_eq (pair_cmp (member_pair m) pair)

-- no more than so many of the lines share a pair
abbrev pub ShareAtMost : ℕ → List Member → Type 0
ShareAtMost most ms = (pair : Pair) → length (filter (is_at pair) ms) ≤ most

-- a fact of how many lines of the sources share a pair at most, if all texts are known, and are indexes
abbrev pub OverShares : List (Option (List ℕ)) → (ℕ → Type 0) → Type 0
OverShares told P =
    OverIndexes told (λ texts indexes. (most : ℕ) → ShareAtMost most (all_lines indexes) → P most)

-- a number that was at most so many still is
abbrev pub StaysWithin : ℕ → ℕ → ℕ → Type 0
StaysWithin most old new = old ≤ most → new ≤ most

-- no more lines are held than one of each source and those of a pair, if so before, where the sources are indexes
abbrev pub HoldsFew : {S : Type 0} → Ghosts S → List S → ℕ → ℕ → Type 0
HoldsFew device ss old new = OverShares (map device.text ss) (λ most. StaysWithin (length ss + most) old new)
