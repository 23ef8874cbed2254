-- Plain bytes are those that are no quote, no backslash and no control.
use Rattle.std.proofs.Common.{◌≡◌, ℕ, ◌<◌, ◌^◌, decimal, Bool, true, ◌&&◌, List}
use Rattle.std.proofs.Common.{[], ◌∷◌, nat_lt, refl, arith, IsUtf8}
use Rattle.std.specs.List.{list_all}
use Rattle.std.specs.Char.{is_ascii_digit}
use Rattle.std.proofs.lemmas.Bool.Decides.{nat_tests}
use Rattle.std.proofs.lemmas.Fmt.{digits_decimal}
use Rattle.json.specs.Run.{is_plain}
use Rattle.json.proofs.Printed.Utf8.{IsUtf8-are_ascii}
use Rattle.cdxj_objects.specs.Plain.{is_open, is_plain_ascii, is_printable}
use Rattle.cdxj_places.proofs.Offsets.{own}

-- what passes a test passes a weaker one
pub weaker : (p q : ℕ → Bool) → ((b : ℕ) → p b ≡ true → q b ≡ true) → (xs : List ℕ) → list_all p xs ≡ true
    → list_all q xs ≡ true
weaker p q f [] h = refl
weaker p q f (x ∷ xs) h = grind (arith, weaker p q f xs)

plain_byte : (b : ℕ) → is_plain b ≡ (is_open b && is_printable b)
plain_byte b = grind arith

pub list_all_plain : (xs : List ℕ) → list_all is_plain xs ≡ (list_all is_open xs && list_all is_printable xs)
list_all_plain [] = refl
list_all_plain (x ∷ xs) = grind (arith, plain_byte, list_all_plain xs)

-- ---- plain ASCII

plain_ascii_byte : (b : ℕ) → is_plain_ascii b ≡ true → is_plain b ≡ true
plain_ascii_byte b h = grind arith

ascii_byte : (b : ℕ) → is_plain_ascii b ≡ true → nat_lt b 128 ≡ true
ascii_byte b h = grind arith

pub ascii_is_plain : (xs : List ℕ) → list_all is_plain_ascii xs ≡ true → list_all is_plain xs ≡ true
ascii_is_plain = weaker is_plain_ascii is_plain plain_ascii_byte

pub ascii_is_utf8 : (xs : List ℕ) → list_all is_plain_ascii xs ≡ true → IsUtf8 xs
ascii_is_utf8 xs h = grind (arith, IsUtf8-are_ascii, weaker is_plain_ascii (λ b. nat_lt b 128) ascii_byte)

-- ---- numbers

digit_is_plain : (b : ℕ) → is_ascii_digit b ≡ true → is_plain b ≡ true
digit_is_plain b h = grind (arith, nat_tests, h)

pub digits_plain : (digits : List ℕ) → list_all is_ascii_digit digits ≡ true → list_all is_plain digits ≡ true
digits_plain = weaker is_ascii_digit is_plain digit_is_plain

pub plain_decimal : (n : ℕ) → n < 2 ^ 63 → list_all is_plain (decimal n) ≡ true
plain_decimal n h = grind (arith, digits_plain, digits_decimal, own)
