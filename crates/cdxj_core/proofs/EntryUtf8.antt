-- The line of an entry is UTF-8.
use Rattle.std.proofs.Common.{◌≡◌, ℕ, ◌<◌, ◌≤◌, true, List, [], ◌∷◌, ◌++◌, length, decimal, flat_map, Some}
use Rattle.std.proofs.Common.{arith, IsUtf8, refl, ltb}
use Rattle.std.specs.List.{list_all}
use Rattle.std.proofs.lemmas.Str.{IsUtf8-append, IsUtf8-from_ascii, IsUtf8-nil}
use Rattle.std.proofs.lemmas.Fmt.{digits_decimal}
use Rattle.json.specs.Print.{quoted}
use Rattle.json.proofs.Printed.Utf8.{IsUtf8-quoted, IsUtf8-are_ascii}
use Rattle.cdxj_places.proofs.Offsets.{own}
use Rattle.cdxj_places.proofs.PlaceLaw.{digits_utf8}
use Rattle.cdxj_objects.specs.Objects.{member_text, object_text}
use Rattle.cdxj_objects.proofs.ObjectLaw.{Pair}
use Rattle.cdxj_objects.proofs.TextsLaw.{first_of, later_of}
use Rattle.cdxj_core.specs.Entries.{EntryValue, IsGood, entry_texts, members_of, body_text, line_text}
use Rattle.cdxj_core.specs.Lines.{line_in, body_of, entry_values}
use Rattle.cdxj_core.proofs.EntryRead.{line_in-body_text, body_of-feed}

abbrev AreTexts : List Pair → Type 0
AreTexts [] = Unit {0}
AreTexts (m ∷ ms) = IsUtf8 m.0 × (IsUtf8 m.1 × AreTexts ms)

byte : (b : ℕ) → b < 128 → IsUtf8 (b ∷ [])
byte b h = grind (arith, IsUtf8-from_ascii)

after : (b : ℕ) (s : List ℕ) → b < 128 → IsUtf8 s → IsUtf8 (b ∷ s)
after b s h u = IsUtf8-append (b ∷ []) s (byte b h) u

member_utf8 : (m : Pair) → IsUtf8 m.0 → IsUtf8 m.1 → IsUtf8 (member_text m)
member_utf8 m a b =
    let between = after 58 _ (omega arith) (byte 32 (omega arith)) in
    IsUtf8-append _ (quoted m.1) (IsUtf8-append (quoted m.0) _ (IsUtf8-quoted m.0 a) between) (IsUtf8-quoted m.1 b)

later_utf8 : (ms : List Pair) → AreTexts ms → IsUtf8 (flat_map (λ m. (44 ∷ 32 ∷ []) ++ member_text m) ms)
later_utf8 [] h = IsUtf8-nil
later_utf8 (m ∷ ms) h = after 44 _ (omega arith) (after 32 _ (omega arith)
    (IsUtf8-append (member_text m) _ (member_utf8 m h.0 h.1.0) (later_utf8 ms h.1.1)))

object_utf8 : (m : Pair) (ms : List Pair) → AreTexts (m ∷ ms) → IsUtf8 (object_text (m ∷ ms))
object_utf8 m ms h =
    let inner = IsUtf8-append (member_text m) _ (member_utf8 m h.0 h.1.0) (later_utf8 ms h.1.1) in
    after 123 _ (omega arith) (IsUtf8-append _ (125 ∷ []) inner (byte 125 (omega arith)))

abbrev AreValues : List Pair → Type 0
AreValues [] = Unit {0}
AreValues (m ∷ ms) = IsUtf8 m.1 × AreValues ms

-- names of ASCII, and texts
named : (ms : List Pair) → list_all (λ m. list_all (λ b. ltb b 128) m.0) ms ≡ true → AreValues ms → AreTexts ms
named [] ascii values = tt
named (m ∷ ms) ascii values = grind (arith, IsUtf8-are_ascii, named ms)

pub body_utf8 : (e : EntryValue) → IsGood e → IsUtf8 (body_text e)
body_utf8 e h =
    let texts : AreValues (members_of e) = grind (arith, digits_utf8, digits_decimal, own, decimal) in
    let object = object_utf8 (first_of (entry_texts e)) (later_of (entry_texts e)) (named (members_of e) refl texts) in
    let stamp : IsUtf8 e.stamp = grind (arith, digits_utf8) in
    IsUtf8-append e.key _ h.utf8_key (after 32 _ (omega arith)
    (IsUtf8-append e.stamp _ stamp (after 32 _ (omega arith) object)))

pub line_law : (limit : ℕ) (e : EntryValue) → IsGood e → length (line_text e) ≤ limit
    → line_in limit (body_of (line_text e)) ≡ Some (entry_values e)
line_law limit e h short = grind (arith, body_of-feed, line_in-body_text)

pub line_utf8 : (e : EntryValue) → IsGood e → IsUtf8 (body_of (line_text e))
line_utf8 e h = grind (arith, body_of-feed, body_utf8)
