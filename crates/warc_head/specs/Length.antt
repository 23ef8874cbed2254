-- The length of a block (ISO 28500:2017, 5.3).
use Rattle.std.specs.Prelude.{ℕ, ◌+◌, ◌-◌, ◌*◌, ◌^◌, ◌&&◌, nat_le, Bool, List, [], ◌∷◌, length, Result, Ok, Err}
use Rattle.std.specs.Prelude.{if◌then◌else◌}
use Rattle.std.specs.List.{list_all}
use Rattle.warc_head.specs.Bytes.{digit_0, digit_9}
use Rattle.warc_head.specs.declared.fault.HeadFault.{HeadFault}
use Rattle.warc_head.specs.declared.fault.HeadFault.TheVariants as faults

abbrev pub is_digit : ℕ → Bool
is_digit b = nat_le digit_0 b && nat_le b digit_9

abbrev pub all_digits : List ℕ → Bool
all_digits text = list_all is_digit text

-- the number of the digits after those of a number
abbrev pub number_after : ℕ → List ℕ → ℕ
number_after n [] = n
number_after n (d ∷ ds) = number_after (10 * n + (d - digit_0)) ds

-- the number that digits spell
abbrev pub number_of : List ℕ → ℕ
number_of digits = number_after 0 digits

-- the number of 1 to 19 digits, at most 2^63 - 1
unfoldable pub length_of : List ℕ → Result ℕ HeadFault
length_of value =
    if nat_le 1 (length value) && nat_le (length value) 19 && all_digits value && nat_le (number_of value) (2 ^ 63 - 1)
    then Ok (number_of value) else Err faults.BadLength
