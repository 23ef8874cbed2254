-- The captures of the records of a compressed archive.
use Rattle.std.specs.Prelude.{◌≡◌, ℕ, ◌<◌, Bool, List, length, Option, Some, option_map, Result, Ok, Err, IsSome}
use Rattle.warc_core.specs.declared.fault.Cause.TheVariants.{Memory}
use Rattle.warc_core.specs.declared.next.TheConstants.{HEAD_LIMIT}
use Rattle.warc_core.specs.Kind.{Kind}
use Rattle.cdxj_core.specs.Entries.{EntryValue, line_text}
use Rattle.capture_core.specs.declared.fault.CaptureFault.{CaptureFault}
use Rattle.capture_core.specs.declared.fault.CaptureFault.TheVariants.{Archive, LineTooLong, KeyTooLong}
use Rattle.capture_core.specs.declared.place.Place.{Place}
use Rattle.capture_core.specs.Capture.{PartsValue, entry_from}
use Rattle.capture_core.specs.CaptureAnswer.{usual_limits}
use Rattle.archives.specs.Captures.{IsCaptureFrom, MayBeRefused}
use Rattle.archives.specs.Form.{ComesRecord, Placed}
use Rattle.archives.specs.Packed.{packed}

-- the entry of a record that gives these parts, at this place, or none where it gives none; or why
-- it has no line
abbrev pub AnswersLine : ℕ → Place → List ℕ → Option PartsValue → Result (Option EntryValue) CaptureFault → Type 0
AnswersLine limit place name parts (Ok captured) = captured ≡ option_map (entry_from place name) parts
AnswersLine limit place name parts (Err (Archive f)) = (f.offset ≡ place.offset) × (f.cause ≡ Memory)
AnswersLine limit place name parts (Err (LineTooLong o)) = (o ≡ place.offset)
    × (p : PartsValue) × (parts ≡ Some p) × (limit < length (line_text (entry_from place name p)))
AnswersLine limit place name parts (Err (KeyTooLong o)) = (o ≡ place.offset) × IsSome parts

-- The record of the member that begins these bytes was read to its end, with its capture under the
-- archive's name; or why it was not.
abbrev pub TakesCapture : (Kind → Bool) → List ℕ → ℕ → List ℕ → Result (Placed × Option EntryValue) CaptureFault
    → Option (List ℕ) → Type 0
TakesCapture types name start bytes (Ok (p, captured)) after = ComesRecord (packed HEAD_LIMIT) start p
    (λ r. IsCaptureFrom types usual_limits (packed HEAD_LIMIT) name r captured) (Some bytes) after
TakesCapture types name start bytes (Err fault) after =
    MayBeRefused types usual_limits (packed HEAD_LIMIT) name start bytes fault
