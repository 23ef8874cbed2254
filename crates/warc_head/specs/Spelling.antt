-- The spelling of a head, each field on one line (ISO 28500:2017, clause 4).
use Rattle.std.specs.Prelude.{◌≡◌, ℕ, true, List, ◌∷◌, ◌++◌, length, All}
use Rattle.std.specs.List.{list_all, flat_map}
use Rattle.warc_head.specs.Bytes.{space, colon}
use Rattle.warc_head.specs.Lines.{line_end, is_content, trim}
use Rattle.warc_head.specs.Names.{is_name}
use Rattle.warc_head.specs.Fields.{Field}
use Rattle.warc_head.specs.Parts.{parts_of, parts_in}

-- a field that needs no folding: its value has no CR or LF, and no white space at its ends
pub record IsOneLine (f : Field) : Type 0 where
  pub name : is_name f.name ≡ true
  pub plain : list_all is_content f.value ≡ true
  pub trimmed : trim f.value ≡ f.value

-- name, colon, space, value
abbrev pub field_text : Field → List ℕ
field_text f = f.name ++ (colon ∷ space ∷ f.value)

-- the lines of fields
abbrev pub spelled : List Field → List ℕ
spelled fields = flat_map (λ f. field_text f ++ line_end) fields

-- a head spelled from its fields, after a version line of ten bytes, is read as these fields
abbrev pub SpellingReadsBack : Type 0
SpellingReadsBack = (version : List ℕ) (fields : List Field) → length version ≡ 10 → All IsOneLine fields
    → parts_of (version ++ (spelled fields ++ line_end)) ≡ parts_in fields
