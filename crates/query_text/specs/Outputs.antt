-- How a query asks for its page to be written.
use Rattle.std.specs.Prelude.{Bool, true, false, codes, bytes_eq, Ok, Err, if◌then◌else◌}
use Rattle.query_text.specs.declared.fault.QueryFault.TheVariants as fault
use Rattle.query_text.specs.declared.output.OutputFormat.{OutputFormat}
use Rattle.query_text.specs.declared.output.OutputFormat.TheVariants as output
use Rattle.query_text.specs.Readings.{Text, Read}

abbrev pub output_of : Text → Read OutputFormat
output_of name = if bytes_eq name (codes "text") then Ok output.Text
    else (if bytes_eq name (codes "json") then Ok output.Json
    else (if bytes_eq name (codes "cdxj") then Ok output.Cdxj else Err fault.BadOutput))

abbrev pub flag_of : Text → Read Bool
flag_of text = if bytes_eq text (codes "true") then Ok true
    else (if bytes_eq text (codes "false") then Ok false else Err fault.BadFlag)
