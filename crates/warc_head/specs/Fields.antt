-- The named fields of a head (ISO 28500:2017, clauses 4 and 5).
use Rattle.std.specs.Option.{option_map}
use Rattle.std.specs.Prelude.{ℕ, ◌==◌, Bool, not, List, [], ◌∷◌, ◌++◌, filter, map, Option, None, Some, Result, Ok, Err}
use Rattle.std.specs.Prelude.{if◌then◌else◌}
use Rattle.warc_head.specs.Bytes.{space, colon}
use Rattle.warc_head.specs.declared.fault.HeadFault.{HeadFault}
use Rattle.warc_head.specs.declared.fault.HeadFault.TheVariants as faults
use Rattle.warc_head.specs.Answers.{◌>>=◌}
use Rattle.warc_head.specs.Lines.{lines_of, line_content, continues, trim}
use Rattle.warc_head.specs.Names.{is_name, same_name}

pub record Field : Type 0 where
  pub name : List ℕ
  pub value : List ℕ

-- the text before the first colon, and the text after it
unfoldable pub at_colon : List ℕ → Option (List ℕ × List ℕ)
at_colon [] = None
at_colon (b ∷ bs) = if b == colon then Some ([], bs) else option_map (λ p. (b ∷ p.0, p.1)) (at_colon bs)

-- the field of a name and what follows the colon
abbrev pub named : Option (List ℕ × List ℕ) → Result Field HeadFault
named None = Err faults.FieldLine
named (Some p) = if is_name p.0 then Ok (record { name = p.0; value = trim p.1 }) else Err faults.FieldLine

-- the field that a line begins
unfoldable pub field_in : List ℕ → Result Field HeadFault
field_in text = named (at_colon text)

-- two pieces of a value with one space between them; an empty piece is left out
abbrev pub joined : List ℕ → List ℕ → List ℕ
joined [] more = more
joined (b ∷ bs) [] = b ∷ bs
joined (b ∷ bs) (c ∷ cs) = (b ∷ bs) ++ (space ∷ c ∷ cs)

-- a field that goes on with a piece
abbrev pub longer : Field → List ℕ → Field
longer f piece = record { name = f.name; value = joined f.value piece }

-- What some lines give: the text that they add to the field before the first of them, if they do, and their fields.
pub record Given : Type 0 where
  pub more : Option (List ℕ)
  pub fields : List Field

abbrev pub added : Option (List ℕ) → List ℕ
added None = []
added (Some text) = text

-- a piece that goes on with the field before, and what follows it
abbrev pub with_folded : List ℕ → Given → Given
with_folded piece later = record { more = Some (joined piece (added later.more)); fields = later.fields }

-- a field, with what the lines after it add to its value, and what follows it
abbrev pub with_field : Field → Given → Given
with_field field later =
    record {
      more = None;
      fields = record { name = field.name; value = joined field.value (added later.more) } ∷
          later.fields;
    }

unfoldable pub given_by : List (List ℕ) → Result Given HeadFault
given_by [] = Ok (record { more = None; fields = [] })
given_by (line ∷ lines) = do
  text ← line_content line
  if continues text then (given_by lines >>= λ later. Ok (with_folded (trim text) later))
      else (field_in text >>= λ field. given_by lines >>= λ later. Ok (with_field field later))

-- before the first field there is none to go on with
abbrev pub unless_continued : Option (List ℕ) → List Field → Result (List Field) HeadFault
unless_continued None fields = Ok fields
unless_continued (Some text) fields = Err faults.FieldLine

-- the fields of the lines between the version line and the empty line
unfoldable pub fields_of : List ℕ → Result (List Field) HeadFault
fields_of body = do
  given ← given_by (lines_of body)
  unless_continued given.more given.fields

-- the values of the fields of a name, first to last
abbrev pub field_values : List ℕ → List Field → List (List ℕ)
field_values name fields = map (λ f. f.value) (filter (λ f. same_name f.name name) fields)

abbrev pub first_value : List (List ℕ) → Option (List ℕ)
first_value [] = None
first_value (v ∷ vs) = Some v

-- the value of the first field of a name
unfoldable pub value_of : List ℕ → List Field → Option (List ℕ)
value_of name fields = first_value (field_values name fields)
