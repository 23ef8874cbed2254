-- A text cut at places.
use Rattle.std.proofs.Common.{◌≡◌, ℕ, ◌+◌, ◌-◌, ◌<◌, ◌≤◌, ◌^◌, Bool, true, List, ◌∷◌, ◌++◌, length, take, drop, get_or}
use Rattle.std.proofs.Common.{decimal, sym, arith, take-take}
use Rattle.std.specs.Char.{is_ascii_digit}
use Rattle.std.specs.List.{list_all, prefix_len}
use Rattle.std.specs.Str.Parse.{digits_value}
use Rattle.std.proofs.lemmas.Bool.Decides.{nat_tests}
use Rattle.std.proofs.lemmas.Fmt.{decimal-digits_value}
use Rattle.std.proofs.lemmas.List.{drop_more, drop-drop, get_or-drop, get_or-take, length-drop, length-take, take-append-drop}
use Rattle.std.proofs.lemmas.List.Folds.{length-prefix_len}
use Rattle.std.proofs.lemmas.List.Sums.{list_all-from_AllPass, prefix_len-le-length, prefix_len_passes}
use Rattle.std.proofs.lemmas.Str.Parse.{digits_value_short}
use Rattle.cdxj_places.proofs.Offsets.{own}
use Rattle.cdxj_objects.specs.Plain.{is_neither, is_open}
use Rattle.cdxj_objects.specs.PlainPlaces.{IsDecimalTo, IsNumberAfter, IsTextAfter}
use Rattle.cdxj_objects.specs.Spans.{part}
use Rattle.cdxj_objects.proofs.PlainBytes.{weaker}

-- what stands behind a front, up to a place and from there on
pub behind : (text front : List ℕ) (at n end : ℕ) → take n (drop at text) ≡ front → at + n ≤ end → drop at text ≡ front
    ++ (part text (at + n) end ++ drop end text)
behind text front at n end same low =
    let rest : drop (end - (at + n)) (drop (at + n) text) ≡ drop end text = grind (arith, drop-drop) in
    grind (
      arith,
      take-append-drop n (drop at text),
      drop-drop n at text,
      take-append-drop (end - (at + n)) (drop (at + n) text),
    )

-- a text is cut at a byte
pub cut_behind : (text : List ℕ) (at : ℕ) → at < length text → text ≡ take at text ++ get_or text at 0 ∷ drop (at + 1) text
cut_behind text at within = grind (arith, take-append-drop, drop_more)

open_byte : (b : ℕ) → is_neither 34 92 b ≡ true → is_open b ≡ true
open_byte b h = grind arith

digit_is_open : (b : ℕ) → is_ascii_digit b ≡ true → is_open b ≡ true
digit_is_open b h = grind (arith, nat_tests, h)

-- the front of bytes that pass a test passes it whole
pub front_passes : (p : ℕ → Bool) (xs : List ℕ) → list_all p (take (prefix_len p xs) xs) ≡ true
front_passes p xs = grind (arith, list_all-from_AllPass, length-prefix_len, get_or-take, prefix_len_passes)

-- a text up to the first quote or backslash has none
pub open_before : (text : List ℕ) (start end : ℕ) → end ≡ start + prefix_len (is_neither 34 92) (drop start text)
    → list_all is_open (part text start end) ≡ true
open_before text start end e =
    let size : end - start ≡ prefix_len (is_neither 34 92) (drop start text) = omega arith in
    grind (arith, front_passes (is_neither 34 92) (drop start text), weaker (is_neither 34 92) is_open open_byte)

-- the digits that begin a text
pub digits_before : (text : List ℕ) (n : ℕ) → n ≡ prefix_len is_ascii_digit (take 16 text) → n ≤ 16
    → list_all is_ascii_digit (take n text) ≡ true
digits_before text n e few = grind (arith, front_passes is_ascii_digit (take 16 text), take-take n 16 text)

pub digits_open : (digits : List ℕ) → list_all is_ascii_digit digits ≡ true → list_all is_open digits ≡ true
digits_open = weaker is_ascii_digit is_open digit_is_open

-- digits without a leading zero are those of their number
pub digits_decimal : (ds : List ℕ) → list_all is_ascii_digit ds ≡ true → 0 < length ds
    → (get_or ds 0 0 ≡ 48 → length ds ≡ 1) → digits_value 10 ds < 2 ^ 64 → ds ≡ decimal (digits_value 10 ds)
digits_decimal ds all some single small = sym (decimal-digits_value own ds all some single small)

-- ---- what stands behind a front

pub text_after : (text front : List ℕ) (at n end : ℕ) → take n (drop at text) ≡ front → at + n ≤ length text
    → end ≡ at + n + prefix_len (is_neither 34 92) (drop (at + n) text) → IsTextAfter text at front (at + n) end
text_after text front at n end same low e = grind (arith, length-drop, prefix_len-le-length, behind, open_before)

-- digits that are counted, the first of which is no leading zero
pub decimal_to : (text : List ℕ) (start count : ℕ) → start + 16 ≤ length text
    → count ≡ prefix_len is_ascii_digit (take 16 (drop start text)) → 0 < count → count < 16
    → (get_or text start 0 ≡ 48 → count ≡ 1) → IsDecimalTo text start (start + count)
decimal_to text start count low e some few single =
    let size : (start + count) - start ≡ count = omega arith in
    let digits : list_all is_ascii_digit (part text start (start + count)) ≡ true =
    rw size (digits_before (drop start text) count e (omega arith)) in
    let long : length (part text start (start + count)) ≡ count = grind (arith, length-take, length-drop) in
    let first : get_or (part text start (start + count)) 0 0 ≡ get_or text start 0 =
    grind (arith, get_or-take, get_or-drop) in
    let small = digits_value_short own (part text start (start + count)) 15 digits (omega (arith, long)) in
    record {
      order = omega arith;
      inside = omega arith;
      digits = digits;
      number = record {
        is = digits_decimal (part text start (start + count)) digits (omega (arith, long)) (grind arith) (grind arith);
        small = grind arith;
      };
    }

pub number_after : (text front : List ℕ) (at n end : ℕ) → take n (drop at text) ≡ front → IsDecimalTo text (at + n) end
    → IsNumberAfter text at front (at + n) end
number_after text front at n end same there = (
  record {
    is = behind text front at n end same (omega (arith, there.order));
    no_quote = digits_open (part text (at + n) end) there.digits;
    order = omega (arith, there.order);
    inside = there.inside;
  },
  there.number,
)
