-- Where fields stand in a text.
use Rattle.std.specs.Prelude.{◌≡◌, ℕ, ◌+◌, ◌-◌, ◌<◌, ◌≤◌, List, [], ◌∷◌, ◌++◌, length, take, drop, map, Ok}
use Rattle.warc_head.specs.Bytes.{space}
use Rattle.warc_head.specs.declared.spans.FieldSpan.{FieldSpan}
use Rattle.warc_head.specs.Fields.{Field, field_in}
use Rattle.warc_head.specs.Lines.{trim}

-- a span in a text of this length
pub record IsWithin (size : ℕ) (p : FieldSpan) : Type 0 where
  pub name : p.name_start ≤ p.name_end
  pub order : p.name_end ≤ p.value_end
  pub value : p.value_start ≤ p.value_end
  pub end : p.value_end ≤ size

-- the bytes from one offset to another
abbrev pub between : ℕ → ℕ → List ℕ → List ℕ
between start end text = take (end - start) (drop start text)

-- the field at a span
abbrev pub field_at : List ℕ → FieldSpan → Field
field_at text p = record { name = between p.name_start p.name_end text; value = between p.value_start p.value_end text }

abbrev pub fields_at : List ℕ → List FieldSpan → List Field
fields_at text spans = map (field_at text) spans

-- from one offset to another the bytes stand that are left of those between two offsets without the white space at both
-- ends
pub record IsTrimmed (text : List ℕ) (from to start end : ℕ) : Type 0 where
  pub low : from ≤ start
  pub order : start ≤ end
  pub high : end ≤ to
  pub value : between start end text ≡ trim (between from to text)

-- a span in a text that begins so many bytes earlier
abbrev pub moved : ℕ → FieldSpan → FieldSpan
moved offset p = record {
  name_start = offset + p.name_start;
  name_end = offset + p.name_end;
  value_start = offset +
      p.value_start;
  value_end = offset + p.value_end;
}

-- a text with bytes behind it
abbrev pub Continues : List ℕ → List ℕ → Type 0
Continues text longer = (more : List ℕ) × (longer ≡ text ++ more)

-- what a piece adds to a value that it goes on with: one space comes before it, where neither is empty
abbrev pub joint : List ℕ → List ℕ → List ℕ
joint [] piece = piece
joint (b ∷ bs) [] = []
joint (b ∷ bs) (c ∷ cs) = space ∷ c ∷ cs

-- the line begins a field whose name ends at this offset
abbrev pub EndsName : List ℕ → ℕ → Type 0
EndsName line end = (end < length line)
    × (field_in line ≡ Ok (record { name = take end line; value = trim (drop (end + 1) line) }))
