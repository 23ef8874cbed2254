-- Where the texts of a plain object's members stand.
use Rattle.std.proofs.Common.{◌≡◌, ℕ, zero, suc, ◌+◌, ◌-◌, ◌<◌, ◌≤◌, ◌==◌, Bool, true, false, List, [], ◌∷◌, ◌++◌, drop}
use Rattle.std.proofs.Common.{length, length-append, get_or, map, append_assoc}
use Rattle.std.proofs.Common.{refl, ap, sym, ◌∙◌, arith, length-drop, length-take, drop-drop, IsUtf8}
use Rattle.std.proofs.lemmas.Str.{IsCharBoundary-before_ascii, IsCharBoundary-after_ascii}
use Rattle.std.proofs.Math.Seq.{take-append_seam, drop-append_seam}
use Rattle.cdxj_objects.specs.declared.members.Members.{Members}
use Rattle.std.specs.List.{list_all}
use Rattle.cdxj_objects.specs.ObjectMembers.{AllMembers, each, zip_members}
use Rattle.cdxj_objects.specs.Plain.{fronts, pieces, plain_text}
use Rattle.cdxj_objects.specs.PlainPlaces.{AreBegun, AreFrontsOf, AreParts}
use Rattle.cdxj_objects.specs.PlainPlaces.{places_to, spans_at, text_spans, texts_at}
use Rattle.cdxj_objects.specs.Spelling.{IsWritten}
use Rattle.cdxj_objects.specs.declared.plain.PlainFronts.{PlainFronts}
use Rattle.cdxj_objects.specs.Spans.{AreSpans, IsPartBetween, part, span_texts}
use Rattle.std.proofs.lemmas.Bool.{and_parts}
use Rattle.cdxj_objects.proofs.TextsLaw.{behind_first}
use Rattle.cdxj_objects.specs.Texts.{TextsValue}

pub byte_at : (xs : List ℕ) (i b : ℕ) (ys : List ℕ) → drop i xs ≡ b ∷ ys → get_or xs i 0 ≡ b
byte_at [] zero b ys h = absurd (cc)
byte_at [] (suc i) b ys h = absurd (cc)
byte_at (x ∷ xs) zero b ys h = ap (λ l. get_or l 0 0) h
byte_at (x ∷ xs) (suc i) b ys h = byte_at xs i b ys h

-- the text goes on with these bytes at the offset
abbrev pub GoesOn : List ℕ → ℕ → List ℕ → Type 0
GoesOn text at rest = (at ≤ length text) × (drop at text ≡ rest)

-- a name stands there, and what follows it
pub record Next (text : List ℕ) (start end : ℕ) (name rest : List ℕ) : Type 0 where
  pub ends : IsPartBetween text start end
  pub is : part text start end ≡ name
  pub goes_on : GoesOn text end rest

-- the first and the last byte of a front that stands behind a text
abbrev begins_with_quote : List ℕ → Bool
begins_with_quote front = get_or front 0 0 == 34

abbrev ends_with_quote : List ℕ → Bool
ends_with_quote [] = false
ends_with_quote (x ∷ []) = x == 34
ends_with_quote (x ∷ y ∷ front) = ends_with_quote (y ∷ front)

-- a text, the front before it, and where the text begins and ends
abbrev Placed : Type 0
Placed = (ℕ × ℕ) × (List ℕ × List ℕ)

-- they follow one another from a place on
abbrev Follow : ℕ → List Placed → Type 0
Follow at [] = Unit {0}
Follow at (((start, end), (front, s)) ∷ rest) = (start ≡ at + length front) × (end ≡ start + length s)
    × Follow end rest

-- the texts stand there
abbrev Stand : List ℕ → List Placed → Type 0
Stand text [] = Unit {0}
Stand text (((start, end), (front, s)) ∷ rest) = IsPartBetween text start end × (part text start end ≡ s)
    × Stand text rest

quote_ends : (front : List ℕ) → ends_with_quote front ≡ true → (f : List ℕ) × (front ≡ f ++ 34 ∷ [])
quote_ends [] h = absurd (cc)
quote_ends (x ∷ []) h = ([], grind arith)
quote_ends (x ∷ y ∷ front) h =
    let later = quote_ends (y ∷ front) h in
    (x ∷ later.0, ap (λ l. x ∷ l) later.1)

later_begin : (ps : List (List ℕ × List ℕ)) → list_all (λ p. begins_with_quote p.0) ps ≡ true
    → list_all (λ p. begins_with_quote p.0) (behind_first ps) ≡ true
later_begin [] h = refl
later_begin (p ∷ ps) h = (and_parts _ _ h).1

quote_begins : (ps : List (List ℕ × List ℕ)) → list_all (λ p. begins_with_quote p.0) ps ≡ true
    → pieces ps ≡ 34 ∷ drop 1 (pieces ps)
quote_begins [] h = refl
quote_begins (([], s) ∷ ps) h = absurd (cc)
quote_begins ((x ∷ front, s) ∷ ps) h = grind arith

module _ (text : List ℕ) (utf8 : IsUtf8 text) where
  -- a name between two bytes that are the same character of ASCII
  pub next : (mark : ℕ) → mark < 128 → (at : ℕ) (front name rest : List ℕ) (start end : ℕ)
      → GoesOn text at (front ++ mark ∷ (name ++ mark ∷ rest)) → start ≡ at + length front + 1 → end ≡ start + length
      name → Next text start end name (mark ∷ rest)
  next mark ascii at front name rest start end here s e =
      let at_quote : drop (at + length front) text ≡ mark ∷ (name ++ mark ∷ rest) =
      grind (arith, drop-drop (length front) at text, drop-append_seam) in
      let to_name : drop start text ≡ name ++ mark ∷ rest = grind (arith, drop-drop 1 (at + length front) text) in
      let to_rest : drop end text ≡ mark ∷ rest = grind (arith, drop-drop (length name) start text, drop-append_seam) in
      let first = byte_at text (at + length front) mark (name ++ mark ∷ rest) at_quote in
      let last = byte_at text end mark rest to_rest in
      let high : end < length text = grind (arith, length-drop end text) in
      let low : at + length front < length text = omega arith in
      let size : end - start ≡ length name = omega arith in
      let is : part text start end ≡ name = rw (size, to_name) (take-append_seam name (mark ∷ rest)) in
      grind (arith, IsCharBoundary-after_ascii text (at + length front) utf8, IsCharBoundary-before_ascii)

  stands : (ps : List Placed) (at : ℕ) → list_all (λ p. ends_with_quote p.1.0) ps ≡ true
      → list_all (λ p. begins_with_quote p.0) (behind_first (map (λ p. p.1) ps)) ≡ true → Follow at ps
      → GoesOn text at (pieces (map (λ p. p.1) ps)) → Stand text ps
  stands [] at ends begins follow here = tt
  stands (((start, end), (front, s)) ∷ ps) at ends begins follow here =
      let rest = pieces (map (λ p. p.1) ps) in
      let opens = quote_begins (map (λ p. p.1) ps) begins in
      let tests = and_parts _ _ ends in
      let closes = quote_ends front tests.0 in
      let parted : front ++ (s ++ rest) ≡ closes.0 ++ 34 ∷ (s ++ 34 ∷ drop 1 rest) = grind (arith, append_assoc) in
      let size : length front ≡ length closes.0 + 1 = grind (arith, length-append) in
      let one = next 34 (omega arith) at closes.0 s (drop 1 rest) start end (here.0, here.1 ∙ parted)
      (omega (arith, follow.0, size)) follow.1 in (
        one.ends,
        one.is,
        stands ps end tests.1 (later_begin (map (λ p. p.1) ps) begins) follow.2 (one.goes_on.0, one.goes_on.1 ∙ sym opens),
      )

  module _ (t : TextsValue) (at : Members ℕ) (here : GoesOn text at.url (plain_text t)) (places : AreFrontsOf text t at)
    where
      abbrev placed : List Placed
      placed = each (zip_members (λ span piece. (span, piece)) (text_spans text at)
          (zip_members (λ front s. (front, s)) fronts t))

      there : AreParts text at × (texts_at text at ≡ t)
      there =
          let all = stands placed at.url refl refl (grind arith) here in
          grind (arith, all)

      pub parts_there : AreParts text at
      parts_there = there.0

      pub texts_there : texts_at text at ≡ t
      texts_there = there.1

-- ---- the members of a plain object, one after another

pub has_length : (text : List ℕ) (start end : ℕ) → end ≤ length text → start ≤ end → end ≡ start
    + length (part text start end)
has_length text start end high low = grind (arith, length-take, length-drop)

pub parts_order : (text : List ℕ) (at : Members ℕ) → AreParts text at
    → AllMembers (λ place. place.0 ≤ place.1) (text_spans text at)
parts_order text at h = record {
  url = h.url.order;
  mime = h.mime.order;
  status = h.status.order;
  digest = h.digest.order;
  length = h.length.order;
  offset = h.offset.order;
  filename = h.filename.order;
}

pub begun_order : (text : List ℕ) (object : ℕ) (m : PlainFronts) → AreBegun text object m
    → AllMembers (λ place. place.0 ≤ place.1) (places_to m.end m.at)
begun_order text object m begun = record {
  url = begun.texts.url.order;
  mime = begun.texts.mime.order;
  status = begun.texts.status.order;
  digest = begun.texts.digest.order;
  length = begun.texts.length.order;
  offset = begun.texts.offset.order;
  filename = begun.texts.filename.order;
}

-- ---- where the texts of a plain object stand

pub parts_spans : (text : List ℕ) (at : Members ℕ) → AreParts text at → AreSpans text (spans_at text at)
parts_spans text at h = record {
  url = h.url;
  mime = h.mime;
  status = h.status;
  digest = h.digest;
  length = h.length;
  offset = h.offset;
  filename = h.filename;
}

pub begins_inside : (text : List ℕ) (at b : ℕ) (rest : List ℕ) → drop at text ≡ b ∷ rest → at ≤ length text
begins_inside text at b rest h = grind (arith, length-drop at text, ap length h)

-- a plain object that was written behind a text
module _ (old new : List ℕ) (utf8 : IsUtf8 new) (t : TextsValue) (at : Members ℕ) (written : IsWritten old new t at) where
  written_there : GoesOn new at.url (plain_text t)
  written_there =
      let is : drop at.url new ≡ plain_text t = grind (arith, drop-append_seam, written) in
      (begins_inside new at.url 123 (drop 1 (plain_text t)) is, is)

  pub written_parts : AreParts new at
  written_parts = parts_there new utf8 t at written_there written.fronts

  pub written_spans : AreSpans new (spans_at new at)
  written_spans = parts_spans new at written_parts

  pub written_texts : span_texts new (spans_at new at) ≡ t
  written_texts = texts_there new utf8 t at written_there written.fronts
