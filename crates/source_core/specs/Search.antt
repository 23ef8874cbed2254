-- What the search for the first line at or above a pair finds in an index.
use Rattle.std.specs.Prelude.{◌≡◌, ℕ, ◌<◌, ◌⊎◌, List, ◌++◌, length, take, Bool, true, false, Option, Some, None, Result}
use Rattle.std.specs.Prelude.{MatchResult}
use Rattle.std.specs.List.{AllByRecursion}
use Rattle.std.specs.Ordering.{is_lt}
use Rattle.cdxj_core.specs.Members.{Member, member_pair}
use Rattle.cdxj_places.specs.Pair.{pair_of}
use Rattle.cdxj_places.specs.Pairs.{Pair, pair_cmp}
use Rattle.devices.specs.Device.{next_count}
use Rattle.source_core.specs.Halving.{stops_lines}
use Rattle.source_core.specs.IndexLines.{BeginsAfter, first_length}
use Rattle.source_core.specs.Reads.{KeepsSource}
use Rattle.source_core.specs.Windows.{HeldBytes, Holds}
use Rattle.source_core.specs.declared.fault.SearchFault.{SearchFault}
use Rattle.source_core.specs.declared.fault.SearchFault.TheVariants as fault
use Rattle.source_core.specs.declared.source.Source.{Ghosts}

abbrev pub is_below : Pair → Pair → Bool
is_below start pair = is_lt (pair_cmp pair start)

-- there is a pair, and it is below the start
abbrev pub is_some_below : Pair → Option Pair → Bool
is_some_below start None = false
is_some_below start (Some pair) = is_below start pair

-- the line begins, within its first `limit` bytes, with a pair below the start
unfoldable pub line_below : ℕ → Pair → List ℕ → Bool
line_below limit start line = is_some_below start (pair_of (take limit line))

-- No line is left, or the first one isn't below the start, or it is longer than the limit
abbrev pub IsStop : ℕ → Pair → List (List ℕ) → Type 0
IsStop limit start ls = (stops_lines (line_below limit start) ls ≡ true) ⊎ (limit < first_length ls)

-- An index is cut at the offset: the lines before it are those whose pairs are below the start
pub record IsCut (start : Pair) (text : List ℕ) (members : List Member) (offset : ℕ) : Type 0 where
  pub before : List (List ℕ)
  pub begins : BeginsAfter text offset before
  pub low : List Member
  pub high : List Member
  pub members_are : members ≡ low ++ high
  pub as_many : length before ≡ length low
  pub all_below : AllByRecursion (λ m. is_below start (member_pair m) ≡ true) low
  pub none_below : AllByRecursion (λ m. is_below start (member_pair m) ≡ false) high

-- a source's count of failures, before and after a fault of a search
abbrev pub RaisedBySearch : SearchFault → ℕ → ℕ → Type 0
RaisedBySearch fault.Read old new = new ≡ next_count old
RaisedBySearch fault.Memory old new = new ≡ old

-- the same of a search: without a fault the count stays
abbrev pub CountsSearch : {A : Type 0} → Result A SearchFault → ℕ → ℕ → Type 0
CountsSearch result old new = MatchResult result (λ _. new ≡ old) (λ fault. RaisedBySearch fault old new)

-- a step of a search keeps the source, and counts its failure
abbrev pub SearchesSource : {S A : Type 0} → Ghosts S → Result A SearchFault → S → S → Type 0
SearchesSource device result old new =
    KeepsSource device old new × CountsSearch result (device.failures old) (device.failures new)

-- the same, and afterwards its window holds bytes of the source
abbrev pub SearchesOver : {S A : Type 0} → Ghosts S → Result A SearchFault → S → S → HeldBytes → Type 0
SearchesOver device result old new window =
    SearchesSource device result old new × Holds (device.text new) (device.extent new) window
