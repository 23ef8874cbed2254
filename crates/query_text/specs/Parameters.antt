-- The parameters of a query text, and their values.
use Rattle.std.specs.Prelude.{ℕ, ◌==◌, ◌++◌, Bool, false, List, [], ◌∷◌, length, Option, Some, None, is_some, Ok, Err}
use Rattle.std.specs.Prelude.{if◌then◌else◌}
use Rattle.std.specs.List.{slice_split, before_first, after_first}
use Rattle.cdxj_core.specs.declared.field.Field.{Field}
use Rattle.cdxj_core.specs.Places.{PlaceValue}
use Rattle.query_text.specs.declared.fault.QueryFault.TheVariants as fault
use Rattle.query_text.specs.declared.target.MatchKind.{MatchKind}
use Rattle.query_text.specs.declared.output.OutputFormat.{OutputFormat}
use Rattle.query_text.specs.declared.collapse.Collapse.{Collapse}
use Rattle.query_text.specs.declared.parameter.Parameter.{Parameter}
use Rattle.query_text.specs.declared.parameter.Parameter.TheVariants as parameter
use Rattle.query_text.specs.Readings.{Text, Read, and_then}
use Rattle.query_text.specs.Parts.{is_equals, decoded}
use Rattle.query_text.specs.ParameterNames.{parameter_named}
use Rattle.query_text.specs.Values.{stamp_start_of, limit_of, resume_of, listed_fields}
use Rattle.query_text.specs.Filters.{FilterValue, filter_of, literal_of}
use Rattle.query_text.specs.Targets.{match_kind_of}
use Rattle.query_text.specs.Outputs.{output_of, flag_of}
use Rattle.query_text.specs.Collapses.{collapse_of}

-- the values that were given
pub record ParameterValues : Type 0 where
  pub url : Option Text
  pub key : Option Text
  pub kind : Option MatchKind
  pub from : Option Text
  pub to : Option Text
  pub filters : List FilterValue
  pub limit : Option ℕ
  pub resume : Option PlaceValue
  pub show_resume_key : Option Bool
  pub fields : Option (List Field)
  pub output : Option OutputFormat
  pub collapse : Option Collapse

abbrev pub no_values : ParameterValues
no_values = record {
  url = None;
  key = None;
  kind = None;
  from = None;
  to = None;
  filters = [];
  limit = None;
  resume = None;
  show_resume_key = None;
  fields = None;
  output = None;
  collapse = None;
}

-- the parameter was given, and may not be given again
abbrev pub is_given : Parameter → ParameterValues → Bool
is_given parameter.Url v = is_some v.url
is_given parameter.Key v = is_some v.key
is_given parameter.MatchType v = is_some v.kind
is_given parameter.From v = is_some v.from
is_given parameter.To v = is_some v.to
is_given parameter.Filter v = false
is_given (parameter.Condition test) v = false
is_given parameter.Limit v = is_some v.limit
is_given parameter.ResumeKey v = is_some v.resume
is_given parameter.ShowResumeKey v = is_some v.show_resume_key
is_given parameter.Fl v = is_some v.fields
is_given parameter.Output v = is_some v.output
is_given parameter.Collapse v = is_some v.collapse

abbrev pub with_filter : ParameterValues → FilterValue → ParameterValues
with_filter v filter = record v { filters = v.filters ++ filter ∷ [] }

-- The values with that of one more parameter, from its text. Each is form-decoded, but the resume key, which decodes
-- itself.
abbrev pub with_value : Parameter → ParameterValues → Text → Read ParameterValues
with_value parameter.Url v text = Ok (record v { url = Some (decoded text) })
with_value parameter.Key v text = Ok (record v { key = Some (decoded text) })
with_value parameter.MatchType v text =
    and_then (match_kind_of (decoded text)) (λ kind. Ok (record v { kind = Some kind }))
with_value parameter.From v text =
    and_then (stamp_start_of (decoded text)) (λ digits. Ok (record v { from = Some digits }))
with_value parameter.To v text =
    and_then (stamp_start_of (decoded text)) (λ digits. Ok (record v { to = Some digits }))
with_value parameter.Filter v text =
    and_then (literal_of (decoded text)) (λ filter. Ok (with_filter v filter))
with_value (parameter.Condition test) v text =
    and_then (filter_of test (decoded text)) (λ filter. Ok (with_filter v filter))
with_value parameter.Limit v text =
    and_then (limit_of (decoded text)) (λ limit. Ok (record v { limit = Some limit }))
with_value parameter.ResumeKey v text =
    and_then (resume_of text) (λ place. Ok (record v { resume = Some place }))
with_value parameter.ShowResumeKey v text =
    and_then (flag_of (decoded text)) (λ flag. Ok (record v { show_resume_key = Some flag }))
with_value parameter.Fl v text =
    and_then (listed_fields (decoded text)) (λ fields. Ok (record v { fields = Some fields }))
with_value parameter.Output v text =
    and_then (output_of (decoded text)) (λ output. Ok (record v { output = Some output }))
with_value parameter.Collapse v text =
    and_then (collapse_of (decoded text)) (λ collapse. Ok (record v { collapse = Some collapse }))

-- a known name, not given before, and then its value
abbrev pub with_parameter : Option Parameter → ParameterValues → Text → Read ParameterValues
with_parameter None v text = Err fault.Unknown
with_parameter (Some p) v text =
    if is_given p v then Err fault.RepeatedParameter else with_value p v text

-- one more piece: a name, `=` and a value; an empty piece is passed over
abbrev pub with_piece : ParameterValues → Text → Read ParameterValues
with_piece v piece = if length piece == 0 then Ok v
    else with_parameter (parameter_named (decoded (before_first is_equals piece))) v (after_first is_equals piece)

-- from left to right; the first refusal is the answer
abbrev pub with_pieces : ParameterValues → List Text → Read ParameterValues
with_pieces v [] = Ok v
with_pieces v (piece ∷ pieces) = and_then (with_piece v piece) (λ next. with_pieces next pieces)

-- the pieces between the `&`
abbrev pub pieces_of : Text → List Text
pieces_of text = slice_split (λ b. b == 38) text
