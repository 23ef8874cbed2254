-- Base 32 of twenty bytes (RFC 4648, section 6): 160 bits, and a letter for each five of them.
use Rattle.std.specs.Prelude.{ℕ, ◌+◌, ◌-◌, ◌*◌, ◌/◌, ◌%◌, ◌^◌, List, map, nat_lt, slice_index, if◌then◌else◌}
use Rattle.std.specs.List.{range_with_len}

-- bit k of the bytes; bit 0 is the highest of the first byte
abbrev pub bit_at : List ℕ → ℕ → ℕ
bit_at bytes k = slice_index bytes (k / 8) / 2 ^ (7 - k % 8) % 2

-- the value of the bits 5 i to 5 i + 4
abbrev pub five_bits : List ℕ → ℕ → ℕ
five_bits bytes i =
    16 * bit_at bytes (5 * i) + 8 * bit_at bytes (5 * i + 1) + 4 * bit_at bytes (5 * i + 2)
    + 2 * bit_at bytes (5 * i + 3) + bit_at bytes (5 * i + 4)

-- the first and last bytes of the two parts of the alphabet, A to Z and 2 to 7
abbrev pub letter_a : ℕ
letter_a = 65

abbrev pub letter_z : ℕ
letter_z = 90

abbrev pub digit_2 : ℕ
digit_2 = 50

abbrev pub digit_7 : ℕ
digit_7 = 55

-- the alphabet's letter for a value below 32
abbrev pub letter_of : ℕ → ℕ
letter_of value = if nat_lt value 26 then letter_a + value else digit_2 + (value - 26)

-- the letters for the first n groups of five bits
abbrev pub letters_of : List ℕ → ℕ → List ℕ
letters_of bytes n = map (λ i. letter_of (five_bits bytes i)) (range_with_len 0 n)

-- the 32 letters for 20 bytes
unfoldable pub base32_of : List ℕ → List ℕ
base32_of bytes = letters_of bytes 32
