-- The sizes of pages, as a word gives them.
use Rattle.std.specs.Prelude.{ℕ, ◌&&◌, Bool, nat_lt, nat_le, List, [], ◌∷◌, length, Option, Some, None}
use Rattle.std.specs.Prelude.{if◌then◌else◌, option_map, option_and_then}
use Rattle.std.specs.List.{list_all, slice_split}
use Rattle.std.specs.Char.{is_ascii_digit}
use Rattle.std.specs.Str.Parse.{digits_value}
use Rattle.capture_core.specs.Types.{is_comma}
use Rattle.command_line.specs.Words.{Text}

-- 1 to 7 digits of a value from 1 to 1,000,000
abbrev pub is_size : Text → Bool
is_size digits =
    nat_lt 0 (length digits) && nat_le (length digits) 7 && list_all is_ascii_digit digits
    && nat_lt 0 (digits_value 10 digits) && nat_le (digits_value 10 digits) 1000000

abbrev pub size_of : Text → Option ℕ
size_of digits = if is_size digits then Some (digits_value 10 digits) else None

-- the sizes of these digits, where each of them has one
abbrev pub all_sizes : List Text → Option (List ℕ)
all_sizes [] = Some []
all_sizes (digits ∷ later) = option_and_then (λ size. option_map (λ sizes. size ∷ sizes) (all_sizes later))
    (size_of digits)

abbrev pub at_most_1000 : List Text → Option (List ℕ)
at_most_1000 parts = if nat_le (length parts) 1000 then all_sizes parts else None

-- 1 to 1,000 sizes with a comma between
abbrev pub sizes_of : Text → Option (List ℕ)
sizes_of word = at_most_1000 (slice_split is_comma word)
