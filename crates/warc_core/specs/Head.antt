-- What a head's text says.
use Rattle.std.specs.Prelude.{ℕ, List, Result, Ok, Err}
use Rattle.warc_head.specs.declared.fault.HeadFault.{HeadFault}
use Rattle.warc_head.specs.declared.fault.HeadFault.TheVariants as faults
use Rattle.warc_head.specs.Parts as heads
use Rattle.warc_head.specs.Parts.{HeadParts}
use Rattle.warc_core.specs.declared.fault.Cause.{Cause}
use Rattle.warc_core.specs.declared.fault.Cause.TheVariants as causes

abbrev pub cause_of : HeadFault → Cause
cause_of faults.Memory = causes.Memory
cause_of faults.FieldLine = causes.FieldLine
cause_of faults.Missing = causes.Missing
cause_of faults.Repeated = causes.Repeated
cause_of faults.BadLength = causes.BadLength
cause_of faults.BadDate = causes.BadDate

abbrev pub by_cause : Result HeadParts HeadFault → Result HeadParts Cause
by_cause (Ok parts) = Ok parts
by_cause (Err fault) = Err (cause_of fault)

-- what a head's text says, by the rules on its fields
unfoldable pub parts_or_cause : List ℕ → Result HeadParts Cause
parts_or_cause raw = by_cause (heads.parts_of raw)
