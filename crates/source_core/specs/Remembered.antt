-- What is known of a source's lines without a read.
use Rattle.std.specs.Prelude.{◌≡◌, ℕ, ◌+◌, ◌≤◌, List, length, take, drop, Option, Some}
use Rattle.std.specs.List.{All}
use Rattle.source_core.specs.IndexLines.{BeginsFrom}
use Rattle.source_core.specs.LineParts.{IsFrontOf}
use Rattle.source_core.specs.declared.known_line.KnownLine.{KnownLine}

-- the first line from an offset on begins at this one, with these bytes
pub record IsKnown (text : Option (List ℕ)) (from offset : ℕ) (front : List ℕ) : Type 0 where
  pub short : length front ≤ 8192
  pub begins : (t : List ℕ) → text ≡ Some t → BeginsFrom from t offset
  pub reads : (t : List ℕ) → text ≡ Some t → IsFrontOf t offset front

-- a line is known whose first bytes are among those that are kept
pub record IsKept (text : Option (List ℕ)) (fronts : List ℕ) (line : KnownLine) : Type 0 where
  pub inside : line.start + line.length ≤ length fronts
  pub known : IsKnown text line.from line.offset (take line.length (drop line.start fronts))

-- the same of each of these lines
abbrev pub AreKept : Option (List ℕ) → List ℕ → List KnownLine → Type 0
AreKept text fronts lines = All (λ line. IsKept text fronts line) lines
