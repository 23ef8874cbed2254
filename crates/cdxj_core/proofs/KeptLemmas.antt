-- A line that is kept in one text.
use Rattle.std.proofs.Common.{◌≡◌, ℕ, ◌+◌, ◌<◌, ◌^◌, true, List, [], ◌∷◌, ◌++◌, get_or, take, drop, length, length-take, length-drop, get_or-drop}
use Rattle.std.proofs.Common.{Some, refl, sym, arith, append_assoc, append-nil, length-append}
use Rattle.std.proofs.Common.{ap, ◌∙◌, drop-drop, subst, unwrap_or, IsUtf8}
use Rattle.std.specs.List.{list_all, before_first, after_first}
use Rattle.std.specs.Str.{IsCharBoundary}
use Rattle.std.proofs.lemmas.Str.{IsCharBoundary-before_ascii, IsCharBoundary-end}
use Rattle.std.proofs.Math.Seq.{take-append_seam, get_or-append_seam}
use Rattle.std.proofs.lemmas.Fmt.{digits_value-decimal}
use Rattle.cdxj_places.specs.Pair.{is_space, is_key, is_stamp}
use Rattle.cdxj_places.specs.Places.{offset_of}
use Rattle.cdxj_places.proofs.Offsets.{own}
use Rattle.cdxj_places.proofs.PlaceLaw.{offset_text}
use Rattle.cdxj_objects.specs.declared.members.Members.{Members}
use Rattle.cdxj_objects.specs.declared.span.Span.{Span}
use Rattle.cdxj_objects.specs.FoundMembers.{FoundValue, members_in}
use Rattle.cdxj_objects.specs.MemberValues.{filename_value, offset_value}
use Rattle.cdxj_objects.specs.PlacedMembers.{ArePlacedMembers}
use Rattle.cdxj_objects.specs.Plain.{ArePlain, is_printable, plain_text, values_of_texts}
use Rattle.cdxj_objects.specs.Spans.{AreSpans, span_text, span_texts}
use Rattle.cdxj_objects.specs.Spelling.{IsSpelled, found_texts, raw_texts}
use Rattle.cdxj_objects.specs.Texts.{TextsValue}
use Rattle.cdxj_objects.proofs.PlainBytes.{plain_decimal}
use Rattle.cdxj_objects.proofs.PlainCuts.{cut_behind, front_passes}
use Rattle.cdxj_objects.proofs.PlainPlaces.{next}
use Rattle.cdxj_core.specs.declared.spans.Spans.{Spans}
use Rattle.cdxj_core.specs.declared.spans.TheConstants.{TO_STAMP, TO_STAMP_END}
use Rattle.cdxj_core.specs.KeptLine.{IsEntryOf, IsFrontPair, IsKept, member_in, no_member}
use Rattle.cdxj_core.specs.declared.front_pair.FrontPair.{FrontPair}
use Rattle.cdxj_core.specs.Lines.{LineValue, body_of, has_no_feed, line_value, texts_in}
use Rattle.cdxj_core.specs.Members.{Member, line_entry}
use Rattle.cdxj_core.proofs.FoundLines.{line_found, line_made}
use Rattle.cdxj_core.proofs.LineCuts.{first_key, first_stamp}
use Rattle.cdxj_core.proofs.MemberLemmas.{body_entry, entry_valued, line_of_body}
use Rattle.cdxj_core.proofs.PrintableAscii.{all_parts, printable_feed, printable_key}

plain_values : (t : TextsValue) (v : LineValue) → v.offset < 2 ^ 63 → values_of_texts t ≡ texts_in v → ArePlain t
    → ArePlain (texts_in v)
plain_values t v small same h = grind (arith, plain_decimal)

whole_is : (text line key stamp object tail : List ℕ) → text ≡ line ++ tail → line ≡ key ++ 32 ∷ (stamp ++ 32 ∷ object)
    → text ≡ key ++ 32 ∷ (stamp ++ 32 ∷ (object ++ tail))
whole_is text line key stamp object tail seam cut = grind (arith, append_assoc)

front_is : (text front rest : List ℕ) (n : ℕ) → text ≡ front ++ rest → n ≡ length front → take n text ≡ front
front_is text front rest n seam size = grind (arith, take-append_seam)

stamp_size : (key : ℕ) (stamp : List ℕ) → is_stamp stamp ≡ true
    → key + TO_STAMP_END ≡ key + TO_STAMP + length stamp
stamp_size key stamp good = grind arith

key_ends_there : (text key rest : List ℕ) (n : ℕ) → text ≡ key ++ 32 ∷ rest → n ≡ length key → IsCharBoundary text n
key_ends_there text key rest n whole size =
    grind (arith, IsCharBoundary-before_ascii, get_or-append_seam, length-append)

-- a line, and the texts of its members in it or behind it
kept_line : (limit : ℕ) (text tail : List ℕ) (member : Member) (s : Spans) → IsUtf8 text
    → line_entry limit member.line ≡ Some member → text ≡ member.line ++ tail
    → values_of_texts (span_texts text s.texts) ≡ texts_in member.values → s.size ≡ length member.line
    → IsCharBoundary text s.size → s.key ≡ length member.values.key → s.stamp ≡ member.values.stamp
    → AreSpans text s.texts
    → (s.size ≡ length text → ArePlain (span_texts text s.texts))
    → IsKept limit text s (member_in limit (take s.size text))
kept_line limit text tail member s utf8 entry seam values size line_ends key_size stamp_is parts plain =
    let its = entry_valued limit member.line member entry in
    let key = member.values.key in
    let whole = whole_is text member.line key member.values.stamp its.object tail seam its.cut in
    let there = next text utf8 32 (omega arith) 0 key member.values.stamp (its.object ++ tail) (s.key + TO_STAMP)
    (s.key + TO_STAMP_END) (omega arith, whole) (omega (arith, key_size))
    (stamp_size s.key member.values.stamp its.stamp_rule) in
    let line_is : take s.size text ≡ member.line = front_is text member.line tail s.size seam size in
    let its_entry : line_entry limit (take s.size text) ≡ Some member = ap (line_entry limit) line_is ∙ entry in
    let is : member_in limit (take s.size text) ≡ member = ap (λ found. unwrap_or found no_member) its_entry in
    subst (IsKept limit text s) (sym is) (record {
      entry = its_entry;
      line_is = line_is;
      line_ends = line_ends;
      key_is = front_is text key (32 ∷ (member.values.stamp ++ 32 ∷ (its.object ++ tail))) s.key whole key_size;
      key_ends = key_ends_there text key (member.values.stamp ++ 32 ∷ (its.object ++ tail)) s.key whole key_size;
      stamp_ends = there.ends;
      stamp_text = there.is;
      stamp_is = stamp_is;
      placed = record { parts = parts; texts_are = values };
      key_rule = its.key_rule;
      stamp_rule = its.stamp_rule;
      filename_rule = its.filename_rule;
      offset_rule = its.offset_rule;
      plain = λ e. plain_values (span_texts text s.texts) member.values its.offset_rule values (plain e);
    })

-- a line in which the texts of its members stand is its own text
pub placed_kept : (limit : ℕ) (text : List ℕ) (p : FrontPair) (m : Members Span) → IsUtf8 text
    → list_all is_printable text ≡ true → length text < limit → IsFrontPair text p
    → ArePlacedMembers text (p.key + 16) m
    → IsKept limit text (record {
      size = length text;
      key = p.key;
      stamp = p.stamp;
      texts = m;
    }) (member_in limit (take (length text) text))
placed_kept limit text p m utf8 all short pair members =
    let key = p.key in
    let run = pair.key_is in
    let long = pair.long in
    let space_there = pair.first_space in
    let second = pair.second_space in
    let front = take key text in
    let rest = drop (key + 1) text in
    let stamp = take 14 rest in
    let object = drop (key + 16) text in
    let filename = span_text text m.filename in
    let values = line_value front stamp (found_texts members.found members.offset filename) members.offset in
    let first_cut : text ≡ front ++ 32 ∷ rest = grind (arith, cut_behind text key) in
    let later : drop 15 rest ≡ object = grind (arith, drop-drop 15 (key + 1) text) in
    let there : get_or rest 14 0 ≡ 32 = grind (arith, get_or-drop) in
    let stamp_cut : rest ≡ stamp ++ 32 ∷ object = grind (arith, cut_behind rest 14, length-drop (key + 1) text) in
    let size : length front ≡ key = grind (arith, length-take) in
    let good_stamp : is_stamp stamp ≡ true = ap is_stamp (sym pair.stamp_is) ∙ pair.stamp_rule in
    let some = pair.some in
    let good_key = printable_key front (all_parts is_printable key text all).0 (grind (arith, front_passes))
    (omega (arith, size)) in
    let keys = first_key text front rest first_cut good_key in
    let stamps = first_stamp rest stamp object (stamp_cut, good_stamp) in
    let line = line_found front stamp object members.found members.is in
    let made = line_made front stamp members.found members.offset filename members.named members.placed in
    let member : Member = record { values = values; line = text } in
    let entry = body_entry limit text front rest stamp object member.values utf8 short (printable_feed text all)
    (grind arith) (grind arith) (grind arith) (grind arith) (grind arith) in
    kept_line limit text [] member _ utf8 entry (sym (append-nil text)) (members.values ∙ refl) refl
    (grind (arith, IsCharBoundary-end)) (sym size) pair.stamp_is members.parts (λ e. members.plain)

-- a line whose body is read as a text
pub line_of_text : (limit : ℕ) (line body text : List ℕ) (member : Member) → text ≡ body → body ≡ body_of line
    → list_all is_printable text ≡ true → line_entry limit text ≡ Some member → line_entry limit line ≡ Some member
line_of_text limit line body text member same its all h = grind (arith, line_of_body, printable_feed)

pub front_entry : (limit : ℕ) (text : List ℕ) (member : Member) → list_all is_printable text ≡ true
    → line_entry limit text ≡ Some member → IsEntryOf limit text member
front_entry limit text member all h = λ line same. line_of_text limit line text text member refl (sym same) all h

-- any other line is followed by a plain object with its texts
pub json_kept : (limit : ℕ) (text body key rest stamp object filename : List ℕ) (f : FoundValue) (offset : ℕ)
    (at : Members Span)
    → IsUtf8 text → IsUtf8 body → length body < limit → has_no_feed body ≡ true
    → key ≡ before_first is_space body → rest ≡ after_first is_space body → stamp ≡ before_first is_space rest
    → object ≡ after_first is_space rest
    → is_key key ≡ true → is_stamp stamp ≡ true → members_in object ≡ Some f
    → filename_value f.filename ≡ Some filename → offset_value f.offset ≡ Some offset
    → IsSpelled body f offset filename text at
    → IsKept limit text (record {
      size = length body;
      key = length key;
      stamp = stamp;
      texts = at;
    }) (member_in limit (take (length body) text))
json_kept limit text body key rest stamp object filename f offset at utf8 body_utf8 short whole k r t o good_key
    good_stamp found named placed spelled =
    let texts = raw_texts f offset filename in
    let line = line_found key stamp object f found in
    let member : Member = record { values = line_value key stamp (values_of_texts texts) offset; line = body } in
    let entry = body_entry limit body key rest stamp object member.values body_utf8 short whole k r t o
    (grind (arith, line_made)) in
    let long : length text ≡ length body + length (plain_text texts) = grind (arith, length-append) in
    kept_line limit text (plain_text texts) member _ utf8 entry spelled.text_is
    (ap values_of_texts spelled.texts_are ∙ grind arith) refl
    (grind (arith, IsCharBoundary-before_ascii, get_or-append_seam)) refl refl spelled.parts (λ e. absurd (omega arith))

-- the offset is what its text spells
pub offset_read : (t : TextsValue) (v : LineValue) → v.offset < 2 ^ 63 → values_of_texts t ≡ texts_in v
    → offset_of t.offset ≡ Some v.offset
offset_read t v small same = grind (arith, same, offset_text, digits_value-decimal, own)

-- the key ends before its line
pub key_short : (limit : ℕ) (line : List ℕ) (member : Member) → line_entry limit line ≡ Some member
    → length member.values.key < length member.line
key_short limit line member h =
    let its = entry_valued limit line member h in
    grind (arith, length-append)
