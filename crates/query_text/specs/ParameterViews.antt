-- What contracts see of the parameters that were read.
use Rattle.std.specs.Prelude.{◌≡◌, ◌≢◌, Result, Ok, Err, MatchResult, option_map, string_bytes}
use Rattle.query_text.specs.declared.fault.QueryFault.{QueryFault}
use Rattle.query_text.specs.declared.fault.QueryFault.TheVariants.{Memory}
use Rattle.query_text.specs.declared.parameters.Parameters.{Parameters}
use Rattle.query_text.specs.Readings.{Read}
use Rattle.query_text.specs.Parameters.{ParameterValues}

abbrev pub parameter_values : Parameters → ParameterValues
parameter_values p = record {
  url = option_map string_bytes p.url;
  key = option_map string_bytes p.key;
  kind = p.kind;
  from = p.from;
  to = p.to;
  filters = p.filters.items;
  limit = p.limit;
  resume = p.resume;
  show_resume_key = p.show_resume_key;
  fields = option_map (λ fields. fields.items) p.fields;
  output = p.output;
  collapse = p.collapse;
}

-- What is read into parameters is what is expected; memory may be refused for any.
abbrev pub IsReadingInto : {T : Type 0} → Parameters → Read ParameterValues → Result T QueryFault → Type 0
IsReadingInto parameters expected result =
    MatchResult result (λ _. expected ≡ Ok (parameter_values parameters)) (λ e. e ≢ Memory → expected ≡ Err e)
