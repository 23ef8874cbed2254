-- What the reading of a line takes from an input.
use Rattle.std.specs.Prelude.{◌≡◌, ℕ, ◌+◌, ◌-◌, ◌^◌, ◌≤◌, ⊤, Bool, true, false, List, [], ◌∷◌, ◌++◌, length, take}
use Rattle.std.specs.Prelude.{Option, None, Some, Result, MatchResult}
use Rattle.devices.specs.Device.{next_count}
use Rattle.devices.specs.LineCuts.{HasNoLineFeed, cut_lines}
use Rattle.devices.specs.declared.input_lines.Part.{Part}
use Rattle.devices.specs.declared.input_lines.Part.TheVariants.{Within, Ended, AtEnd}
use Rattle.devices.specs.declared.input_lines.InputLineFault.{InputLineFault}
use Rattle.devices.specs.declared.input_lines.InputLineFault.TheVariants.{Memory, Read, TooLong}

-- what is held of the input, what is held of the line that was read last, how many bytes of a line are held at most,
-- and how many were taken of the input
pub record LineState : Type 0 where
  pub buffer : List ℕ
  pub line : List ℕ
  pub most : ℕ
  pub taken : ℕ

-- a piece was taken: the bytes of it before a line feed come to the line, of which the first `most` are held
abbrev pub TakesPart : ℕ → Part → Option (List ℕ) → Option (List ℕ) → List ℕ → List ℕ → Type 0
TakesPart most part None after line new = ⊤
TakesPart most part (Some text) None line new = ⊥
TakesPart most Within (Some text) (Some rest) line new = (piece : List ℕ) × (text ≡ piece ++ rest) × HasNoLineFeed piece
    × (new ≡ take most (line ++ piece))
TakesPart most Ended (Some text) (Some rest) line new = (piece : List ℕ) × (text ≡ piece ++ 10 ∷ rest)
    × HasNoLineFeed piece × (new ≡ take most (line ++ piece))
TakesPart most AtEnd (Some text) (Some rest) line new = (text ≡ []) × (rest ≡ []) × (new ≡ line)

-- so many bytes were taken before and after
abbrev pub CountsTaken : Option (List ℕ) → Option (List ℕ) → ℕ → ℕ → Type 0
CountsTaken None after old new = ⊤
CountsTaken (Some text) None old new = ⊥
CountsTaken (Some text) (Some rest) old new = old + length text ≡ new + length rest

-- the first line was taken, of which the first `most` bytes are held, or there was none
abbrev pub TakesLine : ℕ → Bool → Option (List ℕ) → Option (List ℕ) → List ℕ → Type 0
TakesLine most found None after line = ⊤
TakesLine most found (Some text) None line = ⊥
TakesLine most false (Some text) (Some rest) line = (text ≡ []) × (rest ≡ [])
TakesLine most true (Some text) (Some rest) line = (seen : List ℕ) × (cut_lines text ≡ seen ∷ cut_lines rest)
    × (line ≡ take most seen)

-- the bytes of the line so far
abbrev pub LineSoFar : ℕ → Option (List ℕ) → Option (List ℕ) → List ℕ → Type 0
LineSoFar most None now line = ⊤
LineSoFar most (Some text) None line = ⊥
LineSoFar most (Some text) (Some rest) line = (seen : List ℕ) × (text ≡ seen ++ rest) × HasNoLineFeed seen
    × (line ≡ take most seen)

-- Of the input a part of one line was taken, up to these bytes that are left.
abbrev pub StopsInLine : Option (List ℕ) → Option (List ℕ) → Type 0
StopsInLine None left = ⊤
StopsInLine (Some text) None = ⊥
StopsInLine (Some text) (Some left) = (part : List ℕ) × (text ≡ part ++ left) × HasNoLineFeed part

-- an input of this many bytes after those that were taken is too long
abbrev pub IsTooLong : Option (List ℕ) → ℕ → Type 0
IsTooLong None taken = ⊤
IsTooLong (Some text) taken = 2 ^ 63 - 1 ≤ taken + length text

-- a fault of reading: the input failed, or is too long
abbrev pub IsInputLineFault : InputLineFault → ℕ → ℕ → Option (List ℕ) → ℕ → Type 0
IsInputLineFault Memory old new text taken = new ≡ old
IsInputLineFault Read old new text taken = new ≡ next_count old
IsInputLineFault TooLong old new text taken = (new ≡ old) × IsTooLong text taken

abbrev pub CountsInputLine : {A : Type 0} → Result A InputLineFault → ℕ → ℕ → Option (List ℕ) → ℕ → Type 0
CountsInputLine result old new text taken = MatchResult result (λ _. new ≡ old)
    (λ fault. IsInputLineFault fault old new text taken)
