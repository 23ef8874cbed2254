-- The query of a text.
use Rattle.std.specs.Prelude.{ℕ, Bool, false, List, [], ◌∷◌, nat_lt, length, Option, Some, None, unwrap_or, Ok, Err}
use Rattle.std.specs.Prelude.{if◌then◌else◌}
use Rattle.cdxj_core.specs.declared.field.Field.{Field}
use Rattle.cdxj_core.specs.declared.field.Field.TheVariants as field
use Rattle.cdxj_core.specs.Places.{PlaceValue}
use Rattle.query_text.specs.declared.fault.QueryFault.TheVariants as fault
use Rattle.query_text.specs.declared.collapse.Collapse.{Collapse}
use Rattle.query_text.specs.declared.target.MatchKind.{MatchKind}
use Rattle.query_text.specs.declared.target.MatchKind.TheVariants.{Exact}
use Rattle.query_text.specs.declared.output.OutputFormat.{OutputFormat}
use Rattle.query_text.specs.declared.output.OutputFormat.TheVariants as output
use Rattle.query_text.specs.Readings.{Text, Read, and_then}
use Rattle.query_text.specs.Filters.{FilterValue}
use Rattle.query_text.specs.Targets.{TargetValue, url_target}
use Rattle.query_text.specs.Parameters.{ParameterValues, no_values, with_pieces, pieces_of}

-- what a query asks for
pub record QueryValue : Type 0 where
  pub target : TargetValue
  pub from : Option Text
  pub to : Option Text
  pub filters : List FilterValue
  pub limit : Option ℕ
  pub resume : Option PlaceValue
  pub show_resume_key : Bool
  pub fields : List Field
  pub output : OutputFormat
  pub collapse : Option Collapse

-- the fields of a row where a query names none
abbrev pub usual_fields : List Field
usual_fields =
    field.Urlkey ∷ field.Timestamp ∷ field.Original ∷ field.Mimetype ∷ field.Statuscode
    ∷ field.Digest ∷ field.Length ∷ []

-- the target of a `url` or of a `key`, which stands as it is
abbrev pub target_of : Option Text → Option Text → Option MatchKind → Read TargetValue
target_of None None kind = Err fault.NoUrl
target_of (Some url) (Some key) kind = Err fault.UrlAndKey
target_of (Some url) None kind = url_target url kind
target_of None (Some key) kind = Ok (record { kind = unwrap_or kind Exact; text = key })

-- the query with these values and this target
abbrev pub with_target : ParameterValues → TargetValue → QueryValue
with_target v target = record {
  target = target;
  from = v.from;
  to = v.to;
  filters = v.filters;
  limit = v.limit;
  resume = v.resume;
  show_resume_key = unwrap_or v.show_resume_key false;
  fields = unwrap_or v.fields usual_fields;
  output = unwrap_or v.output output.Text;
  collapse = v.collapse;
}

abbrev pub query_with : ParameterValues → Read QueryValue
query_with v = and_then (target_of v.url v.key v.kind) (λ target. Ok (with_target v target))

-- the query of a text, or the refusal that comes first; the limit is in bytes
abbrev pub query_of : ℕ → Text → Read QueryValue
query_of limit text = if nat_lt limit (length text) then Err fault.QueryTooLong
    else and_then (with_pieces no_values (pieces_of text)) query_with
