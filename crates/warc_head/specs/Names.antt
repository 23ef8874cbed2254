-- The names of fields: tokens, compared without regard to case (ISO 28500:2017, clause 4).
use Rattle.std.specs.Prelude.{ℕ, ◌==◌, ◌&&◌, not, nat_le, Bool, List, length, codes}
use Rattle.std.specs.List.{list_all, list_any}
use Rattle.std.specs.Str.{str_eq_ignore_ascii_case}

abbrev pub is_separator : ℕ → Bool
is_separator b = list_any (λ s. s == b) (codes "()<>@,;:\\\"/[]?={}")

-- the visible ASCII characters, from first to last
abbrev pub exclamation_mark : ℕ
exclamation_mark = 0x21

abbrev pub tilde : ℕ
tilde = 0x7e

-- visible, and no separator
abbrev pub is_name_byte : ℕ → Bool
is_name_byte b = nat_le exclamation_mark b && nat_le b tilde && not (is_separator b)

abbrev pub is_name : List ℕ → Bool
is_name name = not (length name == 0) && list_all is_name_byte name

-- the same but for the case of ASCII letters
abbrev pub same_name : List ℕ → List ℕ → Bool
same_name a b = str_eq_ignore_ascii_case a b
