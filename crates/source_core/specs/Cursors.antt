-- Where a cursor stands in a source's text.
use Rattle.std.specs.Prelude.{◌≡◌, ℕ, ◌+◌, ◌<◌, ◌≤◌, List, length, drop, true, Option, Some, Result}
use Rattle.std.specs.Prelude.{MatchResult}
use Rattle.devices.specs.Device.{next_count}
use Rattle.cdxj_places.specs.TextLines.{lines}
use Rattle.source_core.specs.Windows.{AreBytesAt}
use Rattle.source_core.specs.LineParts.{PartOf}
use Rattle.source_core.specs.declared.fault.LineReadFault.{LineReadFault}
use Rattle.source_core.specs.declared.fault.LineReadFault.TheVariants as fault

-- a cursor: the bytes that it holds, the offset of the first of them, the offset of its first line, and how many lines
-- it gave
pub record CursorState : Type 0 where
  pub ahead : List ℕ
  pub at : ℕ
  pub start : ℕ
  pub count : ℕ

-- the offset up to which bytes were read
abbrev pub reach : CursorState → ℕ
reach c = c.at + length c.ahead

-- the bytes that it holds are the text's next ones
abbrev pub Filled : Option (List ℕ) → ℕ → CursorState → Type 0
Filled text extent c = AreBytesAt text extent c.at c.ahead

-- so many lines from the start on were given
pub record Stands (text : Option (List ℕ)) (extent : ℕ) (c : CursorState) : Type 0 where
  pub filled : Filled text extent c
  pub begun : c.start + c.count ≤ c.at
  pub rest : (t : List ℕ) → text ≡ Some t → lines (drop c.at t) ≡ drop c.count (lines (drop c.start t))

-- it begins at this offset, and gave no line yet
pub record IsFresh (c : CursorState) (start : ℕ) : Type 0 where
  pub begins : c.start ≡ start
  pub there : c.at ≡ start
  pub none : c.count ≡ 0

-- so many of the bytes that are held are a line, which ends with a line feed
pub record IsHeldLine (held : List ℕ) (size : ℕ) : Type 0 where
  pub some : 0 < size
  pub inside : size ≤ length held
  pub part : PartOf held size true

-- a source's count of failures, before and after a fault of the reading of a line
abbrev pub RaisedByLineRead : LineReadFault → ℕ → ℕ → Type 0
RaisedByLineRead fault.Read old new = new ≡ next_count old
RaisedByLineRead other old new = new ≡ old

-- the same of the reading: without a fault the count stays
abbrev pub CountsLineRead : {A : Type 0} → Result A LineReadFault → ℕ → ℕ → Type 0
CountsLineRead result old new = MatchResult result (λ _. new ≡ old) (λ fault. RaisedByLineRead fault old new)
