-- What the reading of one line of an index owes.
use Rattle.std.specs.Prelude.{◌≡◌, ℕ, ◌+◌, ◌<◌, List, [], ◌∷◌, drop, length, Option, None, Some}
use Rattle.cdxj_core.specs.Members.{Member, line_entry}
use Rattle.cdxj_core.specs.declared.limit.TheConstants.{LINE_LIMIT}
use Rattle.source_core.specs.Cursors.{CursorState}
use Rattle.source_core.specs.Device.{OverText}
use Rattle.source_core.specs.IndexLines.{lines}

-- the cursor gave a line more, or it stands at the end of its source, which has so many bytes
abbrev pub MovesOn : ℕ → CursorState → CursorState → Option Member → Type 0
MovesOn extent old new None = (new.count ≡ old.count) × (new.at ≡ extent)
MovesOn extent old new (Some m) = (new.count ≡ old.count + 1) × (old.at < new.at)

-- What was read, between two offsets: a line with this entry, or nothing. Where the bytes are known, it is the first line
-- that begins at the former offset, or no line is left.
abbrev pub IsLineRead : Option (List ℕ) → ℕ → ℕ → Option Member → Type 0
IsLineRead told from to None = (to ≡ from) × OverText told (λ text. lines (drop from text) ≡ [])
IsLineRead told from to (Some m) = (line : List ℕ) × (line_entry LINE_LIMIT line ≡ Some m) × (to ≡ from + length line)
    × OverText told (λ text. lines (drop from text) ≡ line ∷ lines (drop to text))

-- what was read, between two offsets: the first line that begins at the former, or no line is left
abbrev pub IsNextLine : List ℕ → ℕ → ℕ → Option Member → Type 0
IsNextLine text from to None = lines (drop from text) ≡ []
IsNextLine text from to (Some m) = (line : List ℕ) × (lines (drop from text) ≡ line ∷ lines (drop to text))
    × (line_entry LINE_LIMIT line ≡ Some m)
