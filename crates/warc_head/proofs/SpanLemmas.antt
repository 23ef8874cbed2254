-- Fields that are stored at spans in one text.
use Rattle.warc_head.proofs.Words.{common_steps, ◌≡◌, ℕ, ◌+◌, ◌≤◌, List, [], ◌∷◌, ◌++◌, length}
use Rattle.warc_head.proofs.Words.{drop, refl, arith, append-nil, append_assoc, length-append}
use Rattle.warc_head.proofs.Words.{false, All, take_rest, All-cons, All-nil, FieldSpan, IsWithin}
use Rattle.warc_head.proofs.Words.{between, field_at, fields_at, moved, Continues}
use Rattle.std.proofs.lemmas.List.{take-append-le, drop-append-le, map-append, length-drop}
use Rattle.std.proofs.lemmas.List.{take_all}
use Rattle.std.proofs.lemmas.List.Elements.{All-append, All-tail}
use Rattle.warc_head.specs.Names.{same_name}
use Rattle.warc_head.specs.Fields.{joined, longer, value_of}
use Rattle.warc_head.specs.Spans.{joint}
use Rattle.std.proofs.Math.Seq.{drop-append-add}

-- bytes that are appended change nothing before them
pub between_more : (text more : List ℕ) (i j : ℕ) → i ≤ j → j ≤ length text → between i j (text ++ more)
    ≡ between i j text
between_more text more i j l m = grind (arith, drop-append-le, take-append-le, length-drop)

field_more : (text more : List ℕ) (p : FieldSpan) → IsWithin (length text) p
    → field_at (text ++ more) p ≡ field_at text p
field_more text more p h = grind (arith, between_more)

last_of : (P : FieldSpan → Type 0) (before : List FieldSpan) (p : FieldSpan) → All P (before ++ p ∷ []) → P p
last_of P before p h = grind (arith, h (length before) p, length-append, common_steps)

before_of : (P : FieldSpan → Type 0) (before : List FieldSpan) (p : FieldSpan) → All P (before ++ p ∷ []) → All P before
before_of P before p h = λ k d l. grind (arith, h k d, length-append, common_steps)

pub fields_more : (text more : List ℕ) (spans : List FieldSpan) → All (IsWithin (length text)) spans
    → fields_at (text ++ more) spans ≡ fields_at text spans
fields_more text more [] h = refl
fields_more text more (p ∷ spans) h =
    let others = All-tail (IsWithin (length text)) p spans h in
    grind (arith, field_more, h 0 p, fields_more text more spans)

one : (P : FieldSpan → Type 0) (p : FieldSpan) → P p → All P (p ∷ [])
one P p h = All-cons P p [] h (All-nil P)

pub within_later : (size : ℕ) (rest later : List FieldSpan) (first : FieldSpan) → rest ≡ first ∷ later
    → All (IsWithin size) rest → All (IsWithin size) later
within_later size rest later first e h = All-tail (IsWithin size) first later (rw e at h)

-- a field of a line that stands in a text
module _ (text front line back : List ℕ) (spans : List FieldSpan) (p : FieldSpan)
    (held : text ≡ front ++ (line ++ back))
    (inside : IsWithin (length line) p) where
  size : length text ≡ length front + length line + length back
  size = grind (arith, length-append)

  pub field_added : fields_at text (spans ++ moved (length front) p ∷ []) ≡ fields_at text spans
      ++ field_at line p ∷ []
  field_added = grind (arith, map-append, drop-append-add, field_more)

  pub span_added : All (IsWithin (length text)) spans
      → All (IsWithin (length text)) (spans ++ moved (length front) p ∷ [])
  span_added h = grind (arith, common_steps, size)

-- the value at the last of some spans, at the end of a longer text, and a piece that is appended to it
module _ (text there text' piece more : List ℕ) (before : List FieldSpan) (last p : FieldSpan)
    (old : All (IsWithin (length text)) (before ++ last ∷ [])) (copied : there ≡ text ++ more)
    (value : drop p.value_start there ≡ (field_at text last).value) (start : p.value_start ≤ length there)
    (new : text' ≡ there ++ joint (drop p.value_start there) piece)
    (name : p.name_start ≡ last.name_start) (name_end : p.name_end ≡ last.name_end) (end : p.value_end ≡ length text')
  where
    last_within : IsWithin (length text) last
    last_within = grind (arith, last_of)

    before_within : All (IsWithin (length text)) before
    before_within = before_of (IsWithin (length text)) before last old

    whole : text' ≡ text ++ (more ++ joint (drop p.value_start there) piece)
    whole = grind (arith, append_assoc)

    copied_size : length there ≡ length text + length more
    copied_size = grind (arith, length-append)

    longer_size : length text' ≡ length there + length (joint (drop p.value_start there) piece)
    longer_size = grind (arith, length-append)

    name_same : between p.name_start p.name_end text' ≡ (field_at text last).name
    name_same =
        let w = whole in
        let l = last_within in
        grind (arith, between_more)

    value_new : between p.value_start p.value_end text' ≡ joined (field_at text last).value piece
    value_new = grind (arith, take_all, length-drop, drop-append-le, append-nil)

    pub piece_added : fields_at text' (before ++ p ∷ [])
        ≡ fields_at text before ++ longer (field_at text last) piece ∷ []
    piece_added = grind (arith, map-append, whole, fields_more, before_within, name_same, value_new)

    pub place_longer : All (IsWithin (length text')) (before ++ p ∷ [])
    place_longer = All-append (IsWithin (length text')) before (p ∷ [])
        (λ k d l. grind (arith, longer_size, copied_size, before_within k d l))
        (grind (arith, one, last_within, longer_size, copied_size))

pub old_fields : (text : List ℕ) (before : List FieldSpan) (last : FieldSpan) → fields_at text (before ++ last ∷ [])
    ≡ fields_at text before ++ field_at text last ∷ []
old_fields text before last = grind (arith, map-append)

pub Continues-trans : (a b c : List ℕ) → Continues a b → Continues b c → Continues a c
Continues-trans a b c h k = grind (arith, append_assoc)

-- fields at spans, of which the first was looked at
module _ (text name : List ℕ) (rest later : List FieldSpan) (first : FieldSpan) (cut : rest ≡ first ∷ later) where
  pub value_later : same_name (field_at text first).name name ≡ false → value_of name (fields_at text rest)
      ≡ value_of name (fields_at text later)
  unfolding value_of
  value_later h = grind arith

pub ruleset longer_rules = (take_rest, between_more, append_assoc)
