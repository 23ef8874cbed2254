-- The form text of a place is read as that place.
use Rattle.std.proofs.Common.{◌≡◌, ◌≢◌, ℕ, ◌+◌, ◌-◌, ◌<◌, ◌≤◌, ◌^◌, ◌&&◌, Bool, true, not, List, [], ◌∷◌, ◌++◌}
use Rattle.std.proofs.Common.{length, decimal, Some, refl, ap, ◌∙◌, arith, All, IsUtf8}
use Rattle.std.proofs.lemmas.Bool.{ne_eqb, and_parts, lt-ltb, le-leb}
use Rattle.std.proofs.Math.Seq.{take-append_seam, drop-append-add, get_or-append_right}
use Rattle.std.proofs.lemmas.List.Elements.{All-weaker, All-append, All-cons, All-nil, All-head, All-tail}
use Rattle.std.proofs.lemmas.List.Sums.{AllPass-from_list_all}
use Rattle.std.proofs.lemmas.Str.{IsUtf8-append, IsUtf8-from_ascii, utf8_lossy-IsUtf8}
use Rattle.std.proofs.lemmas.Str.Ascii.{IsAscii-from_all}
use Rattle.std.proofs.lemmas.Fmt.{digits_decimal, digits_value-decimal, decimal_nonempty, length-decimal-le}
use Rattle.std.specs.List.{list_all, position_or_len, suffix_len, before_first, after_first, before_last, after_last}
use Rattle.std.specs.Char.{is_ascii_digit}
use Rattle.std.specs.Str.Lossy.{utf8_lossy}
use Rattle.std.proofs.lemmas.Bool.Decides.{nat_tests}
use Rattle.std.proofs.lemmas.List.{length-append}
use Rattle.form_urlencoded.proofs.FormLemmas.{decode-byte_serialize}
use Rattle.cdxj_places.specs.Pair.{is_space, is_key_byte, is_key}
use Rattle.cdxj_places.specs.Places.{PlaceValue, IsPlace, place_text, resume_text, is_offset, place_in}
use Rattle.cdxj_places.specs.Places.{resume_place}
use Rattle.cdxj_places.proofs.LastSpace.{last_at}
use Rattle.cdxj_places.proofs.Offsets.{own}

abbrev IsDigit : ℕ → Type 0
IsDigit b = is_ascii_digit b ≡ true

-- ---- no space

key_byte : (b : ℕ) → is_key_byte b ≡ true → b ≢ 32
key_byte b h e = cc

digit_byte : (b : ℕ) → IsDigit b → b ≢ 32
digit_byte b h e = cc

pub key_no_space : (key : List ℕ) → is_key key ≡ true → All (λ b. b ≢ 32) key
key_no_space key h = grind (arith, All-weaker, AllPass-from_list_all, and_parts)

pub digits_no_space : (ds : List ℕ) → list_all is_ascii_digit ds ≡ true → All (λ b. b ≢ 32) ds
digits_no_space ds h = All-weaker IsDigit (λ b. b ≢ 32) digit_byte ds (AllPass-from_list_all is_ascii_digit ds h)

-- ---- cuts

pub first_at : (xs ys : List ℕ) → All (λ b. b ≢ 32) xs → position_or_len is_space (xs ++ 32 ∷ ys) ≡ length xs
first_at [] ys none = refl
first_at (x ∷ xs) ys none =
    let head = All-head (λ b. b ≢ 32) x xs none in
    rw (ne_eqb x 32 head, first_at xs ys (All-tail (λ b. b ≢ 32) x xs none)) (omega arith)

pub before_first_at : (xs ys : List ℕ) → All (λ b. b ≢ 32) xs → before_first is_space (xs ++ 32 ∷ ys) ≡ xs
before_first_at xs ys none = grind (arith, first_at, take-append_seam)

pub after_first_at : (xs ys : List ℕ) → All (λ b. b ≢ 32) xs → after_first is_space (xs ++ 32 ∷ ys) ≡ ys
after_first_at xs ys none = grind (arith, first_at, drop-append-add)

last_here : (xs ys : List ℕ) → All (λ b. b ≢ 32) ys → suffix_len (λ x. not (is_space x)) (xs ++ 32 ∷ ys) ≡ length
    (xs ++ 32 ∷ ys) - (length xs + 1)
last_here xs ys none = grind (arith, length-append, last_at, get_or-append_right)

pub before_last_at : (xs ys : List ℕ) → All (λ b. b ≢ 32) ys → before_last is_space (xs ++ 32 ∷ ys) ≡ xs
before_last_at xs ys none =
    let s = xs ++ 32 ∷ ys in
    let len : length s ≡ length xs + (1 + length ys) = length-append xs (32 ∷ ys) ∙ omega arith in
    let at : length s - suffix_len (λ x. not (is_space x)) s - 1 ≡ length xs =
    omega (arith, last_here xs ys none, len) in
    grind (arith, take-append_seam)

pub after_last_at : (xs ys : List ℕ) → All (λ b. b ≢ 32) ys → after_last is_space (xs ++ 32 ∷ ys) ≡ ys
after_last_at xs ys none =
    let s = xs ++ 32 ∷ ys in
    let len : length s ≡ length xs + (1 + length ys) = length-append xs (32 ∷ ys) ∙ omega arith in
    let at : length s - suffix_len (λ x. not (is_space x)) s ≡ length xs + 1 =
    omega (arith, last_here xs ys none, len) in
    grind (arith, drop-append-add)

-- ---- the offset

pub both : (a b : Bool) → a ≡ true → b ≡ true → (a && b) ≡ true
both a b p q = grind arith

pub offset_text : (n : ℕ) → n < 2 ^ 63 → is_offset (decimal n) ≡ true
offset_text n small =
    let short : length (decimal n) ≤ 19 = grind (arith, length-decimal-le) in
    grind (arith, decimal, digits_value-decimal, own, lt-ltb, decimal_nonempty, le-leb, digits_decimal)

-- ---- the law

pub place_in-place_text : (p : PlaceValue) → IsPlace p → place_in (place_text p) ≡ Some p
unfolding place_in
place_in-place_text p h =
    grind (
      arith,
      key_no_space,
      digits_no_space,
      and_parts,
      digits_decimal,
      own,
      after_first_at,
      before_first_at,
      before_last_at,
      after_last_at,
      offset_text,
      digits_value-decimal,
    )

digit_ascii : (b : ℕ) → IsDigit b → b < 128
digit_ascii b h = grind (arith, nat_tests)

digits_ascii : (ds : List ℕ) → list_all is_ascii_digit ds ≡ true → All (λ b. b < 128) ds
digits_ascii ds h = All-weaker IsDigit (λ b. b < 128) digit_ascii ds (AllPass-from_list_all is_ascii_digit ds h)

pub digits_utf8 : (ds : List ℕ) → list_all is_ascii_digit ds ≡ true → IsUtf8 ds
digits_utf8 ds h = IsUtf8-from_ascii ds (IsAscii-from_all ds (digits_ascii ds h))

small_byte : (b : ℕ) → b < 128 → b < 256
small_byte b h = omega arith

pub resume_text_read : (p : PlaceValue) → IsPlace p → resume_place (resume_text p) ≡ Some p
resume_text_read p h =
    let fits : p.offset < 2 ^ 64 = omega (arith, h.offset) in
    let stamp_digits = (and_parts _ _ h.stamp).1 in
    let decimal_digits = digits_decimal own p.offset fits in
    let B = λ (b : ℕ). b < 256 in
    let space_text = λ (s : List ℕ) (u : IsUtf8 s). IsUtf8-append (32 ∷ []) s
    (grind (arith, IsUtf8-from_ascii, IsAscii-from_all, All-cons, All-nil)) u in
    let utf8 : IsUtf8 (place_text p) = IsUtf8-append p.key _ h.utf8_key
    (space_text _ (IsUtf8-append p.stamp _ (digits_utf8 p.stamp stamp_digits)
    (space_text _ (grind (arith, IsUtf8-append, digits_utf8, decimal))))) in
    let bytes : All B (place_text p) =
    All-append B p.key _ h.key_bytes (All-cons B 32 _ (omega arith)
    (All-append B p.stamp _ (All-weaker (λ b. b < 128) B small_byte p.stamp (digits_ascii p.stamp stamp_digits))
    (All-cons B 32 _ (omega arith) (All-append B p.filename _ h.filename_bytes
    (grind (arith, All-cons, All-weaker, small_byte, decimal, digits_ascii)))))) in
    ap (λ t. place_in (utf8_lossy t)) (decode-byte_serialize (place_text p) bytes)
    ∙ ap place_in (utf8_lossy-IsUtf8 (place_text p) utf8) ∙ place_in-place_text p h
