-- The four fields that each record has (ISO 28500:2017, 5.2 to 5.5).
use Rattle.std.specs.Prelude.{◌≡◌, ◌<◌, ℕ, nat_lt, Bool, List, [], ◌∷◌, length, codes, Option, None, Some, Result, Ok}
use Rattle.std.specs.Prelude.{Err, if◌then◌else◌}
use Rattle.std.specs.List.{list_all}
use Rattle.warc_head.specs.declared.fault.HeadFault.{HeadFault}
use Rattle.warc_head.specs.declared.fault.HeadFault.TheVariants as faults
use Rattle.warc_head.specs.declared.occurrence.Occurrence.{Occurrence}
use Rattle.warc_head.specs.declared.occurrence.Occurrence.TheVariants.{Never, Once, Repeated}
use Rattle.warc_head.specs.declared.occurrences.Occurrences.{Occurrences}
use Rattle.warc_head.specs.Fields.{Field, field_values, value_of}
use Rattle.warc_head.specs.Names.{same_name}
use Rattle.warc_head.specs.Spans.{IsWithin, field_at}

abbrev pub mandatory : List (List ℕ)
mandatory = codes "WARC-Record-ID" ∷ codes "Content-Length" ∷ codes "WARC-Date" ∷ codes "WARC-Type" ∷ []

-- each of these names stands at least once
abbrev pub none_missing : List (List ℕ) → List Field → Bool
none_missing names fields = list_all (λ name. nat_lt 0 (length (field_values name fields))) names

-- each of these names stands at most once
abbrev pub none_repeated : List (List ℕ) → List Field → Bool
none_repeated names fields = list_all (λ name. nat_lt (length (field_values name fields)) 2) names

-- each mandatory name stands once; a missing one comes before a repeated one
unfoldable pub each_once : List Field → Result (Unit {0}) HeadFault
each_once fields =
    if none_missing mandatory fields then (if none_repeated mandatory fields then Ok tt else Err faults.Repeated) else
    Err faults.Missing

abbrev pub found : Option (List ℕ) → Result (List ℕ) HeadFault
found None = Err faults.Missing
found (Some value) = Ok value

-- a value that has to be there
unfoldable pub required : List ℕ → List Field → Result (List ℕ) HeadFault
required name fields = found (value_of name fields)

-- a field of these values occurs so often; a span is that of its value in a text
abbrev pub Occurs : List ℕ → List (List ℕ) → Occurrence → Type 0
Occurs text values Never = values ≡ []
Occurs text values (Once span) = IsWithin (length text) span × (values ≡ (field_at text span).value ∷ [])
Occurs text values Repeated = 1 < length values

-- the values that one field adds to those of the wanted name
abbrev pub values_in : List ℕ → Field → List (List ℕ)
values_in wanted field = if same_name field.name wanted then field.value ∷ [] else []

-- the mandatory fields occur so often among these
pub record AllOccur (text : List ℕ) (fields : List Field) (o : Occurrences) : Type 0 where
  pub record_id : Occurs text (field_values (codes "WARC-Record-ID") fields) o.record_id
  pub length : Occurs text (field_values (codes "Content-Length") fields) o.length
  pub date : Occurs text (field_values (codes "WARC-Date") fields) o.date
  pub kind : Occurs text (field_values (codes "WARC-Type") fields) o.kind
