-- A walk over an object that begins with the seven members as they are written.
use Rattle.std.proofs.Common.{◌≡◌, ℕ, ◌+◌, ◌-◌, ◌<◌, ◌≤◌, true, List, ◌∷◌, ◌++◌, length, drop, get_or, refl, ap, sym, ◌∙◌, subst, arith}
use Rattle.std.proofs.Common.{drop-drop, length-drop, codes, inl, inr}
use Rattle.std.specs.List.{list_all}
use Rattle.std.proofs.lemmas.List.{drop_more}
use Rattle.json.specs.Run.{is_plain}
use Rattle.cdxj_objects.specs.declared.members.Members.{Members as Seven}
use Rattle.cdxj_objects.specs.declared.plain.FirstTwo.{FirstTwo}
use Rattle.cdxj_objects.specs.declared.plain.PlainFronts.{PlainFronts}
use Rattle.cdxj_objects.specs.declared.span.Span.{Span}
use Rattle.cdxj_objects.specs.declared.walk.FirstMembers.{FirstMembers}
use Rattle.cdxj_objects.specs.declared.walk.Name.{Name}
use Rattle.cdxj_objects.specs.declared.walk.Name.TheVariants.{Mime, Status, Digest, Length, Offset, Filename}
use Rattle.cdxj_objects.specs.ObjectMembers.{AllMembers, all_members, names, with_named}
use Rattle.cdxj_objects.specs.Plain.{first_front, is_printable, later_front}
use Rattle.cdxj_objects.specs.PlainPlaces.{AreBegun, AreFirstTwo, IsTextAfter, spans_of_two, spans_to}
use Rattle.cdxj_objects.specs.Spans.{part}
use Rattle.cdxj_objects.specs.Walk.{AreFirst, IsPlainSpan, IsTurn, name_of, text}
use Rattle.cdxj_objects.proofs.PlainBytes.{list_all_plain}
use Rattle.cdxj_objects.proofs.PlainPlaces as places
use Rattle.cdxj_objects.proofs.PlainPlaces.{begins_inside, byte_at, has_length}
use Rattle.cdxj_objects.proofs.WalkLaw.{HasWalked, all_drop, all_take, first_turn, lex_blank, lex_colon, lex_text, named_all, none_stand, nowhere}
use Rattle.cdxj_objects.proofs.WrittenLaw.{any_first, front_walked, plain_name, written_stand}

pub byte_there : (t : List ℕ) (at b : ℕ) (rest : List ℕ) → drop at t ≡ b ∷ rest → (at < length t) × (get_or t at 0 ≡ b)
byte_there t at b rest h = (omega (arith, length-drop at t, ap length h), byte_at t at b rest h)

module _ (t : List ℕ) (object : ℕ) (all : list_all is_printable t ≡ true) where
  -- the members so far stand in the text, up to the quote at a place
  abbrev pub HasBegun : ℕ → Seven Span → Type 0
  HasBegun end spans = HasWalked t object (end + 1) spans × AllMembers (IsPlainSpan t) spans

  next_begun : (member : Name) (at end : ℕ) (spans : Seven Span) → HasBegun at spans
      → IsTextAfter t at (later_front (name_of member)) (at + length (later_front (name_of member))) end
      → end < length t → get_or t end 0 ≡ 34
      → HasBegun end (with_named (name_of member) (record { start = at + length (later_front (name_of member)); end = end }) spans)
  next_begun member at end spans begun after inside closes =
      let name = name_of member in (
        front_walked t object at (at + length (later_front name)) end name spans all (plain_name member) begun.0 after inside closes,
        written_stand t at name spans end all begun.1 after inside closes,
      )

  module _ (end : ℕ) (after : IsTextAfter t object (first_front names.url) (object + 9) end) (inside : end < length t)
      (closes : get_or t end 0 ≡ 34) where
    abbrev url : List ℕ
    url = part t (object + 9) end

    abbrev rest : List ℕ
    rest = drop (end + 1) t

    abbrev span : Span
    span = record { start = object + 9; end = end }

    here : drop object t ≡ 123 ∷ 34 ∷ (names.url ++ 34 ∷ 58 ∷ 32 ∷ 34 ∷ (url ++ 34 ∷ rest))
    here = after.is ∙ ap (λ l. first_front names.url ++ (url ++ l)) (drop_more t end 0 inside ∙ ap (λ b. b ∷ rest) closes)

    plain_url : list_all is_plain url ≡ true
    plain_url = grind (arith, list_all_plain url, after.no_quote, all_take is_printable (end - (object + 9)) (drop (object + 9) t), all_drop is_printable (object + 9) t all)

    url_stands : IsPlainSpan t span
    url_stands = record {
      plain = plain_url;
      order = after.order;
      inside = after.inside;
      cut = λ utf8. (places.next t utf8 34 (omega arith) object (codes "{\"url\": ") url rest (object + 9) end (begins_inside t object 123 _ here, here)
          (omega arith) (has_length t (object + 9) end after.inside after.order)).ends;
    }

    first_is : IsTurn t (object + 1) (all_members nowhere) (with_named names.url span (all_members nowhere)) (end + 1)
    first_is = record {
      name = names.url;
      value = text url;
      member = rw (sym (drop-drop 1 object t) ∙ ap (drop 1) here) (record {
        at_colon = 58 ∷ 32 ∷ 34 ∷ (url ++ 34 ∷ rest);
        at_value = 32 ∷ 34 ∷ (url ++ 34 ∷ rest);
        name = lex_text names.url (58 ∷ 32 ∷ 34 ∷ (url ++ 34 ∷ rest)) refl;
        colon_is = lex_colon (32 ∷ 34 ∷ (url ++ 34 ∷ rest));
        value = lex_blank (34 ∷ (url ++ 34 ∷ rest)) ∙ lex_text url rest plain_url;
        fits = tt;
      });
      moves = omega (arith, after.order);
      inside = omega (arith, inside);
      texts = refl;
      stand = λ h. named_all (IsPlainSpan t) names.url span (all_members nowhere) url_stands h;
    }

    first_begun : HasBegun end (with_named names.url span (all_members nowhere))
    first_begun = (
      first_turn t object (object + 1) (end + 1) (end + 1) (all_members nowhere) _ refl
          (record { order = omega arith; inside = omega (arith, after.order, inside); same = refl }) first_is
          (record { order = omega arith; inside = omega (arith, inside); same = refl }),
      named_all (IsPlainSpan t) names.url span (all_members nowhere) url_stands (none_stand t),
    )

  pub begun_members : (m : PlainFronts) → AreBegun t object m → m.end < length t → get_or t m.end 0 ≡ 34
      → HasBegun m.end (spans_to m.end m.at)
  begun_members m begun inside closes =
      let after = begun.texts in
      let mime = byte_there t m.at.mime 34 _ after.mime.is in
      let status = byte_there t m.at.status 34 _ after.status.is in
      let digest = byte_there t m.at.digest 34 _ after.digest.is in
      let size = byte_there t m.at.length 34 _ after.length.is in
      let offset = byte_there t m.at.offset 34 _ after.offset.is in
      let filename = byte_there t m.at.filename 34 _ after.filename.is in
      let opens : IsTextAfter t object (first_front names.url) (object + 9) m.at.mime =
      subst (λ n. IsTextAfter t n (first_front names.url) (n + 9) m.at.mime) begun.begins after.url in
      let one = first_begun m.at.mime opens mime.0 mime.1 in
      let two = next_begun Mime m.at.mime m.at.status _ one after.mime status.0 status.1 in
      let three = next_begun Status m.at.status m.at.digest _ two after.status digest.0 digest.1 in
      let four = next_begun Digest m.at.digest m.at.length _ three after.digest size.0 size.1 in
      let five = next_begun Length m.at.length m.at.offset _ four after.length offset.0 offset.1 in
      let six = next_begun Offset m.at.offset m.at.filename _ five after.offset filename.0 filename.1 in
      let seven = next_begun Filename m.at.filename m.end _ six after.filename inside closes in
      subst (λ n. HasBegun m.end (record (spans_to m.end m.at) { url = record { start = n + 9; end = m.at.mime } }))
      (sym begun.begins) seven

  pub two_members : (m : FirstTwo) → AreFirstTwo t object m → m.mime_end < length t → get_or t m.mime_end 0 ≡ 34
      → HasBegun m.mime_end (spans_of_two object m nowhere)
  two_members m begun inside closes =
      let mime = byte_there t m.url_end 34 _ begun.mime.is in
      let one = first_begun m.url_end begun.url mime.0 mime.1 in
      next_begun Mime m.url_end m.mime_end _ one begun.mime inside closes

  pub first_walked : (first : FirstMembers) → AreFirst t object first → HasWalked t object first.at first.spans
  first_walked first (inl (m, begun, quote, is)) =
      subst (λ n. HasWalked t object n first.spans) (sym quote.2)
      (subst (λ spans. HasWalked t object (m.end + 1) spans) (sym is) (begun_members m begun quote.0 quote.1).0)
  first_walked first (inr (inl (m, begun, quote, is))) =
      subst (λ n. HasWalked t object n first.spans) (sym quote.2)
      (subst (λ spans. HasWalked t object (m.mime_end + 1) spans) (sym is) (two_members m begun quote.0 quote.1).0)
  first_walked first (inr (inr any)) = any_first t object first.at (all_members nowhere) first.spans refl any

  pub first_stand : (first : FirstMembers) → AreFirst t object first → AllMembers (IsPlainSpan t) first.spans
  first_stand first (inl (m, begun, quote, is)) =
      subst (AllMembers (IsPlainSpan t)) (sym is) (begun_members m begun quote.0 quote.1).1
  first_stand first (inr (inl (m, begun, quote, is))) =
      subst (AllMembers (IsPlainSpan t)) (sym is) (two_members m begun quote.0 quote.1).1
  first_stand first (inr (inr any)) = any.turn.stand (none_stand t)

  pub first_inside : (first : FirstMembers) → AreFirst t object first → first.at ≤ length t
  first_inside first (inl (m, begun, quote, is)) = omega (arith, quote.0, quote.2)
  first_inside first (inr (inl (m, begun, quote, is))) = omega (arith, quote.0, quote.2)
  first_inside first (inr (inr any)) = any.behind.inside
