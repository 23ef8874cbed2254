-- The grammar of named fields (ISO 28500:2017, clause 4): a name, a colon, and a value that further lines may go on
-- with.
use Rattle.std.specs.Prelude.{◌≡◌, ◌↔◌, ℕ, true, List, [], ◌∷◌, ◌++◌, map, Ok, All}
use Rattle.std.specs.List.{list_all, flat_map}
use Rattle.warc_head.specs.Bytes.{colon}
use Rattle.warc_head.specs.Lines.{line_end, is_content, continues, trim}
use Rattle.warc_head.specs.Names.{is_name}
use Rattle.warc_head.specs.Fields.{Field, joined, fields_of}

-- a field as it is spelled: its name, what follows the colon, and the lines that go on with it
pub record Folded : Type 0 where
  pub name : List ℕ
  pub rest : List ℕ
  pub more : List (List ℕ)

-- a line that begins with white space, without CR and LF
pub record IsContinuation (text : List ℕ) : Type 0 where
  pub begins : continues text ≡ true
  pub plain : list_all is_content text ≡ true

pub record IsFolded (f : Folded) : Type 0 where
  pub name : is_name f.name ≡ true
  pub plain : list_all is_content f.rest ≡ true
  pub more : All IsContinuation f.more

abbrev pub ended : List ℕ → List ℕ
ended text = text ++ line_end

abbrev pub folded_text : Folded → List ℕ
folded_text f = ended (f.name ++ (colon ∷ f.rest)) ++ flat_map ended f.more

-- pieces joined by one space; the empty ones are left out
abbrev pub joined_all : List (List ℕ) → List ℕ
joined_all [] = []
joined_all (piece ∷ pieces) = joined piece (joined_all pieces)

-- the field that is spelled so
abbrev pub unfolded : Folded → Field
unfolded f = record { name = f.name; value = joined_all (map trim (f.rest ∷ f.more)) }

-- a text that spells these fields, and nothing else
pub record IsSpelling (body : List ℕ) (fields : List Field) : Type 0 where
  pub folded : List Folded
  pub each : All IsFolded folded
  pub text : body ≡ flat_map folded_text folded
  pub says : fields ≡ map unfolded folded

-- a text is read as the fields that it spells, and only where it spells them
abbrev pub FieldsAreSpelled : Type 0
FieldsAreSpelled = (body : List ℕ) (fields : List Field) → (fields_of body ≡ Ok fields) ↔ IsSpelling body fields
