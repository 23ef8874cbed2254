-- Members whose texts stand in their object.
use Rattle.std.proofs.Common.{◌≡◌, ℕ, ◌<◌, ◌^◌, true, false, List, [], length, decimal, drop, get_or, Option, Some, None, IsUtf8}
use Rattle.std.proofs.Common.{refl, ap, sym, ◌∙◌, ◌+◌, ◌≤◌, ◌∷◌, arith, codes, drop-drop, length-drop, subst}
use Rattle.std.proofs.lemmas.List.{drop_more}
use Rattle.std.specs.Char.{is_ascii_digit}
use Rattle.std.specs.List.{list_all}
use Rattle.std.specs.Str.Parse.{digits_value}
use Rattle.std.proofs.lemmas.Fmt.{decimal_nonempty, digits_decimal, digits_value-decimal}
use Rattle.serde_json.specs.Data.{Data, null, boolean, string, number, unsigned, negative, float, array, object}
use Rattle.cdxj_places.specs.Places.{offset_of}
use Rattle.cdxj_places.proofs.Offsets.{own}
use Rattle.cdxj_places.proofs.PlaceLaw.{offset_text}
use Rattle.cdxj_objects.specs.declared.members.Members.{Members}
use Rattle.cdxj_objects.specs.declared.plain.PlainFronts.{PlainFronts}
use Rattle.cdxj_objects.specs.declared.span.Span.{Span}
use Rattle.cdxj_objects.specs.FoundMembers.{FoundValue, raw_text}
use Rattle.cdxj_objects.specs.MemberValues.{IsDecimal, filename_value, offset_value, value_text}
use Rattle.cdxj_objects.specs.ObjectMembers.{AllMembers, map_members}
use Rattle.cdxj_objects.specs.PlacedMembers.{ArePlacedMembers}
use Rattle.cdxj_objects.specs.Plain.{is_printable, values_of_texts}
use Rattle.cdxj_objects.specs.PlainPlaces.{AreBegun, spans_to}
use Rattle.cdxj_objects.specs.Spans.{part, span_text}
use Rattle.cdxj_objects.specs.Spelling.{found_texts}
use Rattle.cdxj_objects.specs.Texts.{or_missing}
use Rattle.cdxj_objects.specs.Walk.{AreWalked, Fitting}
use Rattle.cdxj_objects.proofs.PlainCuts as cuts
use Rattle.cdxj_objects.proofs.SpellingLemmas.{text_stands}
use Rattle.cdxj_objects.proofs.BegunLaw.{begun_members, byte_there}
use Rattle.cdxj_objects.proofs.WalkLaw.{walk_ends}

-- ---- an object by a walk

raw_value : (d : Option Data) → Fitting d → or_missing (raw_text d) ≡ value_text d
raw_value None h = refl
raw_value (Some null) h = refl
raw_value (Some (boolean b)) h = refl
raw_value (Some (number (unsigned n))) h = text_stands (decimal n) (decimal_nonempty n h)
raw_value (Some (number (negative z))) h = refl
raw_value (Some (number (float x))) h = refl
raw_value (Some (string s)) h = refl
raw_value (Some (array ds)) h = refl
raw_value (Some (object ms)) h = refl

raw_named : (d : Option Data) → Fitting d → list_all is_ascii_digit (raw_text d) ≡ false
    → filename_value d ≡ Some (raw_text d)
raw_named None h gone = absurd (cc)
raw_named (Some null) h gone = absurd (cc)
raw_named (Some (boolean b)) h gone = absurd (cc)
raw_named (Some (number (unsigned n))) h gone = absurd (grind (arith, digits_decimal own n h))
raw_named (Some (number (negative z))) h gone = absurd (cc)
raw_named (Some (number (float x))) h gone = absurd (cc)
raw_named (Some (string [])) h gone = absurd (cc)
raw_named (Some (string s)) h gone = grind arith
raw_named (Some (array ds)) h gone = absurd (cc)
raw_named (Some (object ms)) h gone = absurd (cc)

decimal_placed : (k n : ℕ) → k < 2 ^ 64 → offset_of (decimal k) ≡ Some n → offset_value (Some (number (unsigned k))) ≡ Some n
decimal_placed k n h is = grind (arith, digits_value-decimal own k h)

raw_placed : (d : Option Data) (n : ℕ) → Fitting d → offset_of (raw_text d) ≡ Some n → offset_value d ≡ Some n
raw_placed None n h is = absurd (cc)
raw_placed (Some null) n h is = absurd (cc)
raw_placed (Some (boolean b)) n h is = absurd (cc)
raw_placed (Some (number (unsigned k))) n h is = decimal_placed k n h is
raw_placed (Some (number (negative z))) n h is = absurd (cc)
raw_placed (Some (number (float x))) n h is = absurd (cc)
raw_placed (Some (string s)) n h is = is
raw_placed (Some (array ds)) n h is = absurd (cc)
raw_placed (Some (object ms)) n h is = absurd (cc)

walked_values : (f : FoundValue) (offset : ℕ) (filename : List ℕ) → AllMembers Fitting f
    → raw_text f.offset ≡ decimal offset → raw_text f.filename ≡ filename
    → values_of_texts (map_members raw_text f) ≡ found_texts f offset filename
walked_values f offset filename fit placed named =
    grind (
      arith,
      placed,
      named,
      raw_value f.url fit.url,
      raw_value f.mime fit.mime,
      raw_value f.status fit.status,
      raw_value f.digest fit.digest,
      raw_value f.length fit.length,
    )

pub walked_placed : (text : List ℕ) (at : ℕ) (spans : Members Span) → IsUtf8 text
    → AreWalked text at spans → list_all is_ascii_digit (span_text text spans.filename) ≡ false
    → IsDecimal (span_text text spans.offset) → ArePlacedMembers text at spans
walked_placed text at spans utf8 walked name written =
    let offset = digits_value 10 (span_text text spans.offset) in
    let value : offset_of (span_text text spans.offset) ≡ Some offset =
    grind (arith, offset_text, digits_value-decimal, own, written.is, written.small) in
    let found = walked.found in
    let texts = walked.texts in
    let name_is : raw_text found.filename ≡ span_text text spans.filename = ap (λ t. t.filename) texts in
    let offset_is : raw_text found.offset ≡ span_text text spans.offset = ap (λ t. t.offset) texts in
    let named = raw_named found.filename walked.fit.filename (ap (list_all is_ascii_digit) name_is ∙ name) in
    record {
      found = found;
      offset = offset;
      is = walked.is;
      named = named ∙ ap Some name_is;
      placed = raw_placed found.offset offset walked.fit.offset (ap offset_of offset_is ∙ value);
      values = ap values_of_texts (sym texts) ∙ walked_values found offset (span_text text spans.filename) walked.fit
          (offset_is ∙ written.is) name_is;
      parts = record {
        url = walked.stand.url.cut utf8;
        mime = walked.stand.mime.cut utf8;
        status = walked.stand.status.cut utf8;
        digest = walked.stand.digest.cut utf8;
        length = walked.stand.length.cut utf8;
        offset = walked.stand.offset.cut utf8;
        filename = walked.stand.filename.cut utf8;
      };
      plain = record {
        url = walked.stand.url.plain;
        mime = walked.stand.mime.plain;
        status = walked.stand.status.plain;
        digest = walked.stand.digest.plain;
        length = walked.stand.length.plain;
        offset = walked.stand.offset.plain;
        filename = walked.stand.filename.plain;
      };
    }

-- ---- an offset

pub offset_spelled : (text : List ℕ) (n : ℕ) → offset_of text ≡ Some n → n < 2 ^ 63
    → (1 < length text → get_or text 0 0 ≡ 48 → ⊥) → IsDecimal text
offset_spelled text n is small zeros = record { is = grind (arith, cuts.digits_decimal); small = grind arith }

-- ---- an object with its members as they are written

named_by_text : (t : List ℕ) (start end : ℕ) → start < end → end ≤ length t → is_ascii_digit (get_or t start 0) ≡ false
    → list_all is_ascii_digit (part t start end) ≡ false
named_by_text t start end some inside first = grind (arith, drop_more t start 0)

pub closed_placed : (t : List ℕ) (object : ℕ) (m : PlainFronts) → IsUtf8 t → list_all is_printable t ≡ true
    → AreBegun t object m → drop m.end t ≡ codes "\"}" → is_ascii_digit (get_or t (m.at.filename + 16) 0) ≡ false
    → ArePlacedMembers t object (spans_to m.end m.at)
closed_placed t at m utf8 all begun closed name =
    let brace : drop (m.end + 1) t ≡ 125 ∷ [] = sym (drop-drop 1 m.end t) ∙ ap (drop 1) closed in
    let quote = byte_there t m.end 34 _ closed in
    let last = byte_there t (m.end + 1) 125 _ brace in
    let opens : (at < length t) × (get_or t at 0 ≡ 123) =
    subst (λ n. (n < length t) × (get_or t n 0 ≡ 123)) begun.begins (byte_there t m.at.url 123 _ begun.texts.url.is) in
    let spans = spans_to m.end m.at in
    let walked = begun_members t at all m begun quote.0 quote.1 in
    let there = walk_ends t at (m.end + 1) spans opens.0 opens.1 walked.0 walked.1 last.0 last.1
    (omega (arith, length-drop m.end t, ap length closed)) in
    walked_placed t at spans utf8 there
    (named_by_text t (m.at.filename + 16) m.end begun.named begun.texts.filename.inside name) begun.offset
