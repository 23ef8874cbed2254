-- A walk over the members of an object, and those among them that stand as they are written.
use Rattle.std.proofs.Common.{◌≡◌, ℕ, ◌+◌, ◌-◌, ◌<◌, ◌≤◌, true, List, ◌∷◌, ◌++◌, length, drop, take, get_or, refl, ap, sym, ◌∙◌, arith}
use Rattle.std.proofs.Common.{[], append_assoc, drop-drop, length-append}
use Rattle.std.specs.List.{list_all}
use Rattle.std.proofs.lemmas.List.{drop_more, take-append-drop}
use Rattle.json.specs.Lex.{begins_colon, between, colon, comma, lex}
use Rattle.json.specs.Run.{is_plain}
use Rattle.serde_json.specs.Data.{put}
use Rattle.cdxj_objects.specs.declared.members.Members.{Members as Seven}
use Rattle.cdxj_objects.specs.declared.span.Span.{Span}
use Rattle.cdxj_objects.specs.declared.tokens.Stands.{Stands}
use Rattle.cdxj_objects.specs.ObjectMembers.{AllMembers, all_members, map_members, with_named}
use Rattle.cdxj_objects.specs.Plain.{is_printable, later_front}
use Rattle.cdxj_objects.specs.PlainPlaces.{IsTextAfter}
use Rattle.cdxj_objects.specs.Spans.{part, span_text}
use Rattle.cdxj_objects.specs.Walk.{IsAnyTurn, IsBlankTo, IsMember, IsNameTo, IsPlainSpan, IsTurn, IsValueAt, name_of, quoted_name, span_of, text, value_of}
use Rattle.cdxj_objects.specs.declared.walk.Name.{Name}
use Rattle.cdxj_objects.specs.declared.walk.Name.TheVariants.{Url, Mime, Status, Digest, Length, Offset, Filename}
use Rattle.cdxj_objects.proofs.FoundLaw.{named_seen}
use Rattle.cdxj_objects.proofs.PlainBytes.{list_all_plain}
use Rattle.cdxj_objects.proofs.PlainPlaces as places
use Rattle.cdxj_objects.proofs.PlainPlaces.{begins_inside, has_length}
use Rattle.cdxj_objects.proofs.WalkLaw.{HasWalked, all_drop, all_take, first_turn, lex_blank, lex_colon, lex_comma, lex_text, named_all, next_member, next_turn, nowhere, put_texts, turn_fits}

-- ---- a member in the spelling of a written line

own_member : (name s u : List ℕ) → list_all is_plain name ≡ true → list_all is_plain s ≡ true
    → IsMember (32 ∷ 34 ∷ (name ++ 34 ∷ 58 ∷ 32 ∷ 34 ∷ (s ++ 34 ∷ u))) name (text s) u
own_member name s u n p = record {
  at_colon = 58 ∷ 32 ∷ 34 ∷ (s ++ 34 ∷ u);
  at_value = 32 ∷ 34 ∷ (s ++ 34 ∷ u);
  name = lex_blank (34 ∷ (name ++ 34 ∷ 58 ∷ 32 ∷ 34 ∷ (s ++ 34 ∷ u))) ∙ lex_text name (58 ∷ 32 ∷ 34 ∷ (s ++ 34 ∷ u)) n;
  colon_is = lex_colon (32 ∷ 34 ∷ (s ++ 34 ∷ u));
  value = lex_blank (34 ∷ (s ++ 34 ∷ u)) ∙ lex_text s u p;
  fits = tt;
}

front_is : (name s u : List ℕ) → later_front name ++ (s ++ 34 ∷ u) ≡ 34 ∷ 44 ∷ 32 ∷ 34 ∷ (name ++ 34 ∷ 58 ∷ 32 ∷ 34 ∷ (s ++ 34 ∷ u))
front_is name s u = grind (arith, append_assoc)

pub front_walked : (t : List ℕ) (object p start end : ℕ) (name : List ℕ) (spans : Seven Span)
    → list_all is_printable t ≡ true → list_all is_plain name ≡ true → HasWalked t object (p + 1) spans
    → IsTextAfter t p (later_front name) start end → end < length t → get_or t end 0 ≡ 34
    → HasWalked t object (end + 1) (with_named name (record { start = start; end = end }) spans)
front_walked t object p start end name spans all plain_name walked after within closes ends =
    let s = part t start end in
    let u = drop (end + 1) t in
    let plain_s : list_all is_plain s ≡ true =
    grind (arith, list_all_plain s, after.no_quote, all_take is_printable (end - start) (drop start t), all_drop is_printable start t all) in
    let here : drop p t ≡ 34 ∷ 44 ∷ 32 ∷ 34 ∷ (name ++ 34 ∷ 58 ∷ 32 ∷ 34 ∷ (s ++ 34 ∷ u)) =
    after.is ∙ ap (λ l. later_front name ++ (s ++ l)) (drop_more t end 0 within ∙ ap (λ b. b ∷ u) closes) ∙ front_is name s u in
    let next : drop (p + 1) t ≡ 44 ∷ 32 ∷ 34 ∷ (name ++ 34 ∷ 58 ∷ 32 ∷ 34 ∷ (s ++ 34 ∷ u)) =
    sym (drop-drop 1 p t) ∙ ap (drop 1) here in
    let rest = 32 ∷ 34 ∷ (name ++ 34 ∷ 58 ∷ 32 ∷ 34 ∷ (s ++ 34 ∷ u)) in
    let separated : lex between (drop (p + 1) t) ≡ comma ∷ lex between rest = ap (λ l. lex between l) next ∙ lex_comma rest in
    let was = walked (ap begins_colon separated) in
    let one = next_member (drop (object + 1) t) (drop (p + 1) t) rest u name (text s) was.found (λ _. was.read)
    separated (own_member name s u plain_name plain_s) ends in
    let v : Stands = record { start = start; end = end; after = end + 1; is_text = true } in
    record {
      found = put name one.0 was.found;
      read = one.2;
      texts = put_texts t name one.0 v was.found spans one.1 refl was.texts;
      fit = turn_fits name one.0 (text s) was.found one.1 tt was.fit;
    }

-- ---- its turn

-- a front without the quote before its text
abbrev unquoted : List ℕ → List ℕ
unquoted name = 34 ∷ 44 ∷ 32 ∷ 34 ∷ (name ++ 34 ∷ 58 ∷ 32 ∷ [])

unquoted_is : (name rest : List ℕ) → later_front name ++ rest ≡ unquoted name ++ 34 ∷ rest
unquoted_is name rest = grind (arith, append_assoc)

unquoted_size : (name : List ℕ) → length (later_front name) ≡ length (unquoted name) + 1
unquoted_size name = grind (arith, length-append)

front_stands : (t : List ℕ) (at : ℕ) (name : List ℕ) (end : ℕ) → list_all is_printable t ≡ true
    → IsTextAfter t at (later_front name) (at + length (later_front name)) end → end < length t → get_or t end 0 ≡ 34
    → IsPlainSpan t (record { start = at + length (later_front name); end = end })
front_stands t at name end all after inside closes =
    let start = at + length (later_front name) in
    let s = part t start end in
    let u = drop (end + 1) t in
    let here : drop at t ≡ unquoted name ++ 34 ∷ (s ++ 34 ∷ u) =
    after.is ∙ ap (λ l. later_front name ++ (s ++ l)) (drop_more t end 0 inside ∙ ap (λ b. b ∷ u) closes)
    ∙ unquoted_is name (s ++ 34 ∷ u) in
    record {
      plain = grind (arith, list_all_plain s, after.no_quote, all_take is_printable (end - start) (drop start t), all_drop is_printable start t all);
      order = after.order;
      inside = after.inside;
      cut = λ utf8. (places.next t utf8 34 (omega arith) at (unquoted name) s u start end (begins_inside t at 34 _ here, here)
          (omega (arith, unquoted_size name)) (has_length t start end after.inside after.order)).ends;
    }

pub plain_name : (member : Name) → list_all is_plain (name_of member) ≡ true
plain_name Url = refl
plain_name Mime = refl
plain_name Status = refl
plain_name Digest = refl
plain_name Length = refl
plain_name Offset = refl
plain_name Filename = refl

pub written_stand : (t : List ℕ) (at : ℕ) (name : List ℕ) (old : Seven Span) (end : ℕ) → list_all is_printable t ≡ true
    → AllMembers (IsPlainSpan t) old → IsTextAfter t at (later_front name) (at + length (later_front name)) end
    → end < length t → get_or t end 0 ≡ 34
    → AllMembers (IsPlainSpan t) (with_named name (record { start = at + length (later_front name); end = end }) old)
written_stand t at name old end all stand after inside closes =
    named_all (IsPlainSpan t) name _ old (front_stands t at name end all after inside closes) stand

-- ---- a turn in any spelling

pub name_there : (t : List ℕ) (at n : ℕ) (bytes name : List ℕ) → at + 16 ≤ length t → n ≤ 16
    → take n (drop at t) ≡ take n bytes → take n bytes ≡ quoted_name name → IsNameTo t at name (at + n)
name_there t at n bytes name long few same is = record {
  order = omega arith;
  inside = omega (arith, long, few);
  is = sym (take-append-drop n (drop at t)) ∙ ap (λ l. l ++ drop n (drop at t)) (same ∙ is)
      ∙ ap (λ l. quoted_name name ++ l) (drop-drop n at t);
}

quoted_is : (name rest : List ℕ) → quoted_name name ++ rest ≡ 34 ∷ (name ++ 34 ∷ 58 ∷ rest)
quoted_is name rest = grind (arith, append_assoc)

pub named_turn : (t : List ℕ) (at to begin : ℕ) (member : Name) (v : Stands) (old : Seven Span)
    → IsNameTo t at (name_of member) to → IsBlankTo t to begin → IsValueAt t begin v
    → IsTurn t at old (with_named (name_of member) (span_of v) old) v.after
named_turn t at to begin member v old named before value =
    let name = name_of member in
    record {
      name = name;
      value = value_of t v;
      member = record {
        at_colon = 58 ∷ drop to t;
        at_value = drop begin t;
        name = ap (λ l. lex between l) (named.is ∙ quoted_is name (drop to t)) ∙ lex_text name (58 ∷ drop to t) (plain_name member);
        colon_is = lex_colon (drop to t) ∙ ap (λ l. colon ∷ l) (sym before.same);
        value = value.is;
        fits = value.fits;
      };
      moves = omega (arith, named.order, before.order, value.moves);
      inside = value.after_inside;
      texts = named_seen (span_text t) name (span_of v) old
          ∙ ap (λ x. with_named name x (map_members (span_text t) old)) (sym value.text_is);
      stand = named_all (IsPlainSpan t) name (span_of v) old value.stands;
    }

pub any_first : (t : List ℕ) (object at : ℕ) (old new : Seven Span) → old ≡ all_members nowhere
    → IsAnyTurn t object old new at → HasWalked t object at new
any_first t object at old new none any =
    first_turn t object any.begin any.end at old new none any.before any.turn any.behind

pub any_next : (t : List ℕ) (object at next : ℕ) (old new : Seven Span) → HasWalked t object at old
    → at < length t → get_or t at 0 ≡ 44 → IsAnyTurn t at old new next → HasWalked t object next new
any_next t object at next old new walked within is any =
    next_turn t object at any.begin any.end next old new walked within is any.before any.turn any.behind
