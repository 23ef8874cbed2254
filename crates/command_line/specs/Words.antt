-- The words of a command line, and which of them are options (POSIX.1-2017, 12.2).
use Rattle.std.specs.Prelude.{ℕ, List, ◌∷◌, Bool, false, ◌==◌, ◌&&◌, ◌||◌, not, codes, map, bytes_eq, String}
use Rattle.std.specs.Prelude.{string_bytes}
use Rattle.std.specs.Global.{Global}

-- the bytes of a word
abbrev pub Text : Type 0
Text = List ℕ

abbrev pub texts : List (String Global) → List Text
texts words = map string_bytes words

-- `-`
abbrev pub dash : ℕ
dash = 45

-- `-` and at least one byte after it; `-` alone is an operand (guideline 13)
abbrev pub is_option : Text → Bool
is_option (first ∷ second ∷ rest) = first == dash
is_option _ = false

abbrev pub asks_for_help : Text → Bool
asks_for_help word = bytes_eq word (codes "-h") || bytes_eq word (codes "--help")

-- of a first word that asks for the version
abbrev pub is_version : Text → Bool
is_version word = bytes_eq word (codes "-V") || bytes_eq word (codes "--version")

-- help has the only options
abbrev pub is_unknown_option : Text → Bool
is_unknown_option word = is_option word && not (asks_for_help word)
