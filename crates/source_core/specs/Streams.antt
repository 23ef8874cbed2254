-- What a source over a file knows of the file's size.
use Rattle.std.specs.Prelude.{ℕ, List, length, Option, None, Some}

-- the size of a known text, or else what is said of it
abbrev pub known_size : Option (List ℕ) → ℕ → ℕ
known_size None said = said
known_size (Some text) said = length text
