-- The lines of a head whose end isn't known yet.
use Rattle.warc_head.proofs.Words.{◌≡◌, ℕ, ◌+◌, ◌-◌, ◌<◌, ◌≤◌, false, List, ◌∷◌, [], ◌++◌, Ok}
use Rattle.warc_head.proofs.Words.{length, take, drop, get_or, ◌∙◌, ap, sym, arith, append_assoc}
use Rattle.warc_head.proofs.Words.{length-drop, length-take-le, append-nil, All, drop-append_seam}
use Rattle.warc_head.proofs.Words.{take-append-drop, drop-drop, FieldSpan, Field, EndsLine}
use Rattle.warc_head.proofs.Words.{continues, is_content, line_end, field_lines_in, IsWithin}
use Rattle.warc_head.proofs.Words.{between, field_at, fields_at, moved, All-cons, All-nil}
use Rattle.std.specs.Prelude.{slice_index}
use Rattle.std.proofs.Math.Seq.{take-append-add}
use Rattle.std.proofs.lemmas.List.{take_all, take-take, drop-take, get_or-drop, get_or-take}
use Rattle.std.proofs.lemmas.List.Folds.{list_all_at}
use Rattle.warc_head.specs.Fields.{fields_of, field_in}
use Rattle.warc_head.specs.Parts.{HeadParts, parts_in, parts_of}
use Rattle.warc_head.specs.Usual.{BeginsWithHead, ClosesAt, IsHeadOf}
use Rattle.std.proofs.lemmas.List.Elements.{All-append}
use Rattle.warc_head.proofs.SpanLemmas.{field_added, fields_more}
use Rattle.warc_head.proofs.FieldLemmas.{going, going-began, going-end, going-start}

-- the fields of the lines from the tenth byte to here, whatever follows
abbrev pub Seen : List ℕ → ℕ → List Field → Type 0
Seen text at seen = (later : List ℕ) → fields_of (between 10 at text ++ later) ≡ going seen later

-- no two LF with one byte between them stand before this place
abbrev pub NoneBefore : List ℕ → ℕ → Type 0
NoneBefore text at = (k : ℕ) → k + 3 < at → slice_index text (k + 1) ≡ 10 → slice_index text (k + 3) ≡ 10 → ⊥

pub within-more : (a b : ℕ) (spans : List FieldSpan) → a ≤ b → All (IsWithin a) spans → All (IsWithin b) spans
within-more a b spans l h = λ k d m. grind (arith, h k d m)

module _ (text : List ℕ) (at stop : ℕ) (ends : EndsLine text at stop) where
  abbrev line : List ℕ
  line = between at stop text

  size : length line ≡ stop - at
  size = grind (arith, length-take-le, length-drop, ends.within, ends.order)

  front-size : 10 ≤ at → length (between 10 at text) ≡ at - 10
  front-size ten = grind (arith, length-take-le, length-drop, ends.within, ends.order)

  whole : 10 ≤ at → drop 10 text ≡ between 10 at text ++ (line ++ (line_end ++ drop (stop + 2) text))
  whole ten =
      let n : 10 + (at - 10) ≡ at = omega (arith, ten) in
      let rest : drop (at - 10) (drop 10 text) ≡ drop at text = drop-drop (at - 10) 10 text ∙ ap (λ k. drop k text) n in
      sym (take-append-drop (at - 10) (drop 10 text)) ∙ ap (λ d. between 10 at text ++ d) (rest ∙ ends.line.spelled)

  longer : 10 ≤ at → between 10 (stop + 2) text ≡ between 10 at text ++ (line ++ line_end)
  longer ten =
      let n : stop + 2 - 10 ≡ length (between 10 at text) + (length line + 2) = omega (arith, size, front-size ten, ends.order) in
      let e = take-append-add (between 10 at text) (line ++ (line_end ++ drop (stop + 2) text)) (length line + 2) in
      let f = take-append-add line (line_end ++ drop (stop + 2) text) 2 in
      grind (arith, whole ten)

  pub seen-more : 10 ≤ at → (seen : List Field) (f : Field) → Seen text at seen → continues line ≡ false → field_in line ≡ Ok f
      → Seen text (stop + 2) (seen ++ f ∷ [])
  seen-more ten seen f kept c n later =
      let on = going-began (line ++ (line_end ++ later)) line later (record { spelled = grind arith; plain = ends.line.plain })
      seen f c n in
      let before = kept (line ++ (line_end ++ later)) in
      grind (arith, longer ten, append_assoc)

  behind : drop stop text ≡ line_end ++ drop (stop + 2) text
  behind =
      let n : at + (stop - at) ≡ stop = omega (arith, ends.order) in
      let rest : drop (stop - at) (drop at text) ≡ drop stop text = drop-drop (stop - at) at text ∙ ap (λ k. drop k text) n in
      sym rest ∙ ap (drop (stop - at)) ends.line.spelled ∙ ap (λ k. drop k (line ++ (line_end ++ drop (stop + 2) text))) (sym size)
      ∙ drop-append_seam line (line_end ++ drop (stop + 2) text)

  no-lf : (i : ℕ) → at ≤ i → i < stop → slice_index text i ≡ 10 → ⊥
  no-lf i l m e =
      let same : get_or line (i - at) 0 ≡ get_or text i 0 = grind (arith, get_or-take, get_or-drop) in
      grind (arith, list_all_at is_content line (i - at) 0, size, ends.line.plain)

  cr : slice_index text stop ≡ 13
  cr = grind (arith, get_or-drop stop text 0 0, behind)

  pub none-more : at < stop → NoneBefore text at → NoneBefore text (stop + 2)
  none-more some none k below p q = grind (arith, none k, no-lf (k + 1), no-lf (k + 3), cr)

  pub ended-more : take 2 (drop (stop + 2 - 2) text) ≡ line_end
  ended-more = grind (arith, behind)

  module _ (ten : 10 ≤ at) (empty : stop ≡ at) (before : take 2 (drop (at - 2) text) ≡ line_end) (none : NoneBefore text at) where
    there : drop at text ≡ line_end ++ drop (at + 2) text
    there = rw empty at behind

    closing : drop (at + 2 - 4) text ≡ line_end ++ (line_end ++ drop (at + 2) text)
    closing =
        let n : at + 2 - 4 ≡ at - 2 = omega arith in
        let m : at - 2 + 2 ≡ at = omega (arith, ten) in
        let last : drop 2 (drop (at - 2) text) ≡ drop at text = drop-drop 2 (at - 2) text ∙ ap (λ k. drop k text) m in
        ap (λ k. drop k text) n ∙ sym (take-append-drop 2 (drop (at - 2) text))
        ∙ ap (λ f. f ++ drop 2 (drop (at - 2) text)) before ∙ ap (λ d. line_end ++ d) (last ∙ there)

    pub closes : ClosesAt text (at + 2)
    closes = record {
      long = omega (arith, ten);
      within = omega (arith, ends.within, empty);
      closing = closing;
      first = λ k l p q. grind (arith, none k, cr);
    }

    body : field_lines_in (take (at + 2) text) ≡ between 10 at text
    body = grind (arith, length-take-le, drop-take, take-take)

    pub gives : (seen : List Field) → Seen text at seen → fields_of (field_lines_in (take (at + 2) text)) ≡ Ok seen
    gives seen kept = ap fields_of body ∙ rw append-nil at (kept []) ∙ going-end seen

-- a field of a line
module _ (text : List ℕ) (at stop : ℕ) (ends : EndsLine text at stop) (spans : List FieldSpan) (p : FieldSpan)
    (inside : IsWithin (length (between at stop text)) p) where
  front : length (take at text) ≡ at
  front = length-take-le at text (omega (arith, ends.within, ends.order))

  held : text ≡ take at text ++ (between at stop text ++ (line_end ++ drop (stop + 2) text))
  held = sym (take-append-drop at text) ∙ ap (λ d. take at text ++ d) ends.line.spelled

  pub field-more : fields_at text (spans ++ moved at p ∷ []) ≡ fields_at text spans ++ field_at (between at stop text) p ∷ []
  field-more =
      rw front at (field_added text (take at text) (between at stop text) (line_end ++ drop (stop + 2) text) spans p held inside)

  pub span-more : All (IsWithin at) spans → All (IsWithin (stop + 2)) (spans ++ moved at p ∷ [])
  span-more h =
      let size : length (between at stop text) ≡ stop - at = grind (arith, length-take-le, length-drop, ends.within, ends.order) in
      let others = within-more at (stop + 2) spans (omega (arith, ends.order)) h in
      All-append (IsWithin (stop + 2)) spans (moved at p ∷ []) others
      (All-cons (IsWithin (stop + 2)) (moved at p) [] (grind (arith, size, ends.order)) (All-nil (IsWithin (stop + 2))))

-- behind a first line of eight bytes
module _ (text : List ℕ) (ends : EndsLine text 0 8) where
  pub start-none : NoneBefore text 10
  start-none = none-more text 0 8 ends (omega arith) (λ k l p q. omega arith)

  pub start-seen : Seen text 10 []
  start-seen later = going-start later

-- what the fields of a head say, which was copied from the front of a text
pub head-of : (text raw : List ℕ) (size : ℕ) (spans : List FieldSpan) (p : HeadParts) → raw ≡ take size text
    → BeginsWithHead text size (fields_at text spans) → All (IsWithin size) spans → parts_in (fields_at raw spans) ≡ Ok p
    → IsHeadOf text (record { raw = take size raw; parts = p })
unfolding parts_of
head-of text raw size spans p e b w s =
    let long : length raw ≡ size = ap length e ∙ length-take-le size text b.closes.within in
    let whole : take size raw ≡ raw = take_all size raw (omega (arith, long)) in
    let split : raw ++ drop size text ≡ text = ap (λ f. f ++ drop size text) e ∙ take-append-drop size text in
    let within : All (IsWithin (length raw)) spans = rw long w in
    let same : fields_at text spans ≡ fields_at raw spans =
    ap (λ t. fields_at t spans) (sym split) ∙ fields_more raw (drop size text) spans within in
    let given : fields_of (field_lines_in raw) ≡ Ok (fields_at raw spans) =
    ap (λ t. fields_of (field_lines_in t)) e ∙ b.gives ∙ ap Ok same in
    record { closes = rw (whole, long) b.closes; front = rw (whole, long) e; says = rw (whole, given) s }
