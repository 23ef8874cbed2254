-- The lines of a text, cut after each line feed.
use Rattle.std.specs.Prelude.{◌≡◌, ◌<◌, ◌≤◌, ℕ, zero, suc, List, [], ◌∷◌, ◌++◌, length, flat_map, max, cond, drop}
use Rattle.std.specs.Prelude.{nat_eq, Bool, true, false, Option, Some, None}
pub use Rattle.cdxj_places.specs.TextLines.{lines}

-- what follows the first line feed
abbrev pub after_line : List ℕ → List ℕ
after_line [] = []
after_line (b ∷ bs) = cond (nat_eq b 10) bs (after_line bs)

-- the text from the first line on that begins at the offset or after it
abbrev pub from_line : ℕ → List ℕ → List ℕ
from_line zero text = text
from_line (suc m) text = after_line (drop m text)

-- the first line that begins at `from` or after it begins at the offset
abbrev pub BeginsFrom : ℕ → List ℕ → ℕ → Type 0
BeginsFrom from text offset = (drop offset text ≡ from_line from text) × (drop offset text ≡ from_line offset text)

-- the line, where one was found
abbrev pub line_found : Bool → List ℕ → Option (List ℕ)
line_found true line = Some line
line_found false line = None

-- a line and the lines after it, or no line
abbrev pub first_then : Option (List ℕ) → List (List ℕ) → List (List ℕ)
first_then None ls = []
first_then (Some l) ls = l ∷ ls

-- the offset is one of those from `from` on and before `until`
abbrev pub IsAmong : ℕ → ℕ → ℕ → Type 0
IsAmong from until offset = (from ≤ offset) × (offset < until)

-- the length of the first line, in bytes; 0 where there is none
abbrev pub first_length : List (List ℕ) → ℕ
first_length [] = 0
first_length (l ∷ ls) = length l

-- the length of the longest line, in bytes
abbrev pub longest : List (List ℕ) → ℕ
longest [] = 0
longest (l ∷ ls) = max (length l) (longest ls)

-- these lines stand before the offset; there a line begins, or the text ends
abbrev pub BeginsAfter : List ℕ → ℕ → List (List ℕ) → Type 0
BeginsAfter text offset front = (lines text ≡ front ++ lines (drop offset text))
    × (offset ≡ length (flat_map (λ l. l) front))

-- a line begins at the offset, or the text ends there
abbrev pub IsLineStart : List ℕ → ℕ → Type 0
IsLineStart text offset = (before : List (List ℕ)) × BeginsAfter text offset before
