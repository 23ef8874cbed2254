-- The line of a good entry is read as that entry.
use Rattle.std.proofs.Common.{All, ◌≢◌}
use Rattle.std.proofs.lemmas.Grind.{common_steps}
use Rattle.std.proofs.Common.{◌≡◌, ℕ, ◌<◌, ◌≤◌, ◌==◌, Bool, true, not, List, [], ◌∷◌, ◌++◌, length, Some}
use Rattle.std.proofs.Common.{refl, arith, flat_map}
use Rattle.std.specs.Char.{is_ascii_digit}
use Rattle.std.proofs.lemmas.Bool.{eq-eqb, and_parts, cond-true}
use Rattle.std.proofs.lemmas.List.{length-append}
use Rattle.std.proofs.lemmas.List.Folds.{list_all-append}
use Rattle.std.proofs.Math.Seq.{take-append_seam, get_or-append_seam}
use Rattle.std.proofs.lemmas.Fmt.{digits_value-decimal, decimal_nonempty}
use Rattle.json.specs.Print.{quoted, escape, escape_byte}
use Rattle.cdxj_places.specs.Pair.{is_key_byte}
use Rattle.cdxj_places.proofs.PlaceLaw.{key_no_space, digits_no_space, before_first_at, after_first_at}
use Rattle.cdxj_places.proofs.PlaceLaw.{offset_text}
use Rattle.cdxj_places.proofs.Offsets.{own}
use Rattle.cdxj_objects.specs.Objects.{member_text, object_text}
use Rattle.cdxj_objects.proofs.ObjectLaw.{Pair}
use Rattle.cdxj_objects.proofs.PlainBytes.{weaker}
use Rattle.cdxj_objects.proofs.SpellingLemmas.{text_stands}
use Rattle.cdxj_objects.proofs.TextsLaw.{first_of, later_of, data_of, read_texts}
use Rattle.cdxj_core.specs.Entries.{EntryValue, IsGood, entry_texts, members_of, body_text, line_text}
use Rattle.cdxj_core.specs.Lines.{has_no_feed, body_of, line_from, line_in, entry_values}

-- ---- no line feed

abbrev no_feed : ℕ → Bool
no_feed b = not (b == 10)

joined : (xs ys : List ℕ) → has_no_feed xs ≡ true → has_no_feed ys ≡ true → has_no_feed (xs ++ ys) ≡ true
joined xs ys h k = grind (arith, list_all-append)

key_feed : (b : ℕ) → is_key_byte b ≡ true → no_feed b ≡ true
key_feed b h = grind arith

digit_feed : (b : ℕ) → is_ascii_digit b ≡ true → no_feed b ≡ true
digit_feed b h = grind arith

abbrev Escapes : ℕ → Type 0
Escapes x = has_no_feed (escape_byte x) ≡ true

-- by a computation over the bytes up to the backslash; no other is escaped
escapes : (x : ℕ) → Escapes x
unfolding escape_byte
escapes x = grind arith

escaped : (s : List ℕ) → has_no_feed (escape s) ≡ true
escaped [] = refl
escaped (x ∷ xs) = grind (arith, joined, escapes, escaped xs)

quoted_feed : (s : List ℕ) → has_no_feed (quoted s) ≡ true
quoted_feed s = grind (arith, joined, escaped)

later_feed : (ms : List Pair) → has_no_feed (flat_map (λ m. (44 ∷ 32 ∷ []) ++ member_text m) ms) ≡ true
later_feed [] = refl
later_feed (m ∷ ms) = grind (arith, joined, quoted_feed, later_feed ms)

object_feed : (m : Pair) (ms : List Pair) → has_no_feed (object_text (m ∷ ms)) ≡ true
object_feed m ms = grind (arith, joined, quoted_feed, later_feed ms)

pub body_feed : (e : EntryValue) → IsGood e → has_no_feed (body_text e) ≡ true
body_feed e h =
    let key = weaker is_key_byte no_feed key_feed e.key (and_parts _ _ h.key).1 in
    let stamp = weaker is_ascii_digit no_feed digit_feed e.stamp (and_parts _ _ h.stamp).1 in
    let object = object_feed (first_of (entry_texts e)) (later_of (entry_texts e)) in
    grind (arith, joined)

-- ---- the body

pub body_of-feed : (xs : List ℕ) → body_of (xs ++ 10 ∷ []) ≡ xs
body_of-feed xs = grind (arith, common_steps, cond-true, eq-eqb, get_or-append_seam, take-append_seam)

-- ---- the values

values_read : (e : EntryValue) → IsGood e → line_from e.key e.stamp (data_of (entry_texts e)) ≡ Some (entry_values e)
values_read e h = grind (arith, offset_text, digits_value-decimal, own, text_stands, decimal_nonempty)

pub line_in-body_text : (limit : ℕ) (e : EntryValue) → IsGood e → length (line_text e) ≤ limit
    → line_in limit (body_text e) ≡ Some (entry_values e)
unfolding line_in
line_in-body_text limit e h short =
    let object = object_text (members_of e) in
    let key_free = key_no_space e.key h.key in
    let stamp_free : All (λ b. b ≢ 32) e.stamp = grind (arith, digits_no_space) in
    let below : length (body_text e) < limit = omega (arith, length-append (body_text e) (10 ∷ []), short) in
    let whole = body_feed e h in
    grind (arith, before_first_at, after_first_at, read_texts (entry_texts e), values_read)
