-- Texts without controls and backslashes, of ASCII or not.
use Rattle.std.proofs.Common.{◌≡◌, ℕ, ◌<◌, ◌==◌, ◌&&◌, Bool, true, not, nat_lt, List, [], ◌∷◌, take, drop, length}
use Rattle.std.proofs.Common.{refl, arith, IsUtf8}
use Rattle.std.specs.List.{list_all, prefix_len}
use Rattle.std.proofs.lemmas.List.{take-append-drop}
use Rattle.std.proofs.lemmas.List.Folds.{list_all-append}
use Rattle.json.proofs.Printed.Utf8.{IsUtf8-are_ascii}
use Rattle.cdxj_places.specs.Pair.{is_key_byte, is_key}
use Rattle.cdxj_objects.specs.Plain.{is_neither, is_printable, is_printable_ascii}
use Rattle.cdxj_objects.proofs.PlainBytes.{weaker}
use Rattle.cdxj_objects.proofs.PlainCuts.{front_passes}
use Rattle.cdxj_core.specs.Lines.{has_no_feed}

byte_is_no_feed : (b : ℕ) → is_printable b ≡ true → not (b == 10) ≡ true
byte_is_no_feed b h = grind arith

byte_is_printable : (b : ℕ) → is_printable_ascii b ≡ true → is_printable b ≡ true
byte_is_printable b h = grind arith

key_byte : (b : ℕ) → (is_printable b && is_neither 32 127 b) ≡ true → is_key_byte b ≡ true
key_byte b h = grind arith

all_both : (p q : ℕ → Bool) (xs : List ℕ) → list_all p xs ≡ true → list_all q xs ≡ true → list_all (λ b. p b && q b) xs
    ≡ true
all_both p q [] h k = refl
all_both p q (x ∷ xs) h k = grind (arith, all_both p q xs)

byte_is_ascii : (b : ℕ) → is_printable_ascii b ≡ true → nat_lt b 128 ≡ true
byte_is_ascii b h = grind arith

pub ascii_printable : (xs : List ℕ) → list_all is_printable_ascii xs ≡ true → list_all is_printable xs ≡ true
ascii_printable = weaker is_printable_ascii is_printable byte_is_printable

pub printable_feed : (xs : List ℕ) → list_all is_printable xs ≡ true → has_no_feed xs ≡ true
printable_feed = weaker is_printable (λ b. not (b == 10)) byte_is_no_feed

-- what stands before the first space or delete of a text without controls is a key, if it is not empty
pub printable_key : (key : List ℕ) → list_all is_printable key ≡ true → list_all (is_neither 32 127) key ≡ true
    → 0 < length key → is_key key ≡ true
printable_key key h k some =
    let both_pass = all_both is_printable (is_neither 32 127) key h k in
    grind (arith, weaker (λ b. is_printable b && is_neither 32 127 b) is_key_byte key_byte key)

pub ascii_utf8 : (xs : List ℕ) → list_all is_printable_ascii xs ≡ true → IsUtf8 xs
ascii_utf8 xs h = grind (arith, IsUtf8-are_ascii, weaker is_printable_ascii (λ b. nat_lt b 128) byte_is_ascii)

-- the parts of a text that passes a test
pub all_parts : (p : ℕ → Bool) (n : ℕ) (text : List ℕ) → list_all p text ≡ true → (list_all p (take n text) ≡ true)
    × (list_all p (drop n text) ≡ true)
all_parts p n text h = grind (arith, list_all-append p (take n text) (drop n text), take-append-drop n text)

pub printable_front : (text : List ℕ) → list_all is_printable_ascii (take (prefix_len is_printable_ascii text) text) ≡ true
printable_front = front_passes is_printable_ascii

pub ruleset ascii_rules = (ascii_utf8, ascii_printable)
