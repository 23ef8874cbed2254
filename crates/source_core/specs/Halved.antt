-- How far a search has come.
use Rattle.std.specs.Prelude.{◌≡◌, ℕ, ◌+◌, ◌-◌, ◌^◌, ◌<◌, ◌≤◌, List, length, drop, true, false, Option, Some, IfSome}
use Rattle.std.specs.Prelude.{IfNone}
use Rattle.cdxj_places.specs.Pairs.{Pair}
use Rattle.source_core.specs.Halving.{stops, digits}
use Rattle.source_core.specs.IndexLines.{from_line}
use Rattle.source_core.specs.Search.{line_below}
use Rattle.source_core.specs.declared.seeking.Span.{Span}

-- the first line that begins at the offset or after it begins so many bytes later, or after that
abbrev pub IsFar : ℕ → List ℕ → ℕ → Type 0
IsFar limit t m = m + limit + length (from_line m t) ≤ length t

-- in a text: no line from the end of the offsets on is below the pair, and the last one before them is
pub record HalvedIn (limit : ℕ) (start : Pair) (extent : ℕ) (t : List ℕ) (s : Span) : Type 0 where
  pub long : length t ≡ extent
  pub from : IfSome s.line (λ o. drop o t ≡ from_line s.high t)
  pub here : IfSome s.line (λ _. stops (line_below limit start) s.high t ≡ true)
  pub far : IfNone s.line (IsFar limit t s.high)
  pub before : (k : ℕ) → s.low ≡ k + 1 → stops (line_below limit start) k t ≡ false
  pub begins : (k : ℕ) → s.low ≡ k + 1 → drop k t ≡ from_line k t

-- the offsets that are left, after so many steps, are no more than the steps that are left can halve
pub record Halved (limit : ℕ) (start : Pair) (text : Option (List ℕ)) (extent : ℕ) (s : Span) : Type 0 where
  pub ordered : s.low ≤ s.high
  pub within : s.high ≤ extent
  pub inside : IfSome s.line (λ o. o ≤ extent)
  pub some : IfNone s.line (0 < s.high)
  pub left : (k : ℕ) × (k + s.probes ≡ digits extent) × (s.high - s.low < 2 ^ k)
  pub told : (t : List ℕ) → text ≡ Some t → HalvedIn limit start extent t s
