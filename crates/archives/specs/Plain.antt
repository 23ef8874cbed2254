-- What contracts see of a plain archive.
use Rattle.std.specs.Prelude.{ℕ, Bool, true, false, ⊤, List, Option, None, Some, Result, Ok, Err}
use Rattle.std.specs.Io.KnownBytes.{prepend_known}
use Rattle.warc_core.specs.declared.fault.Cause.TheVariants.{Memory}
use Rattle.warc_core.specs.declared.fault.Fault.{Fault}
use Rattle.warc_core.specs.declared.phase.Phase.{Phase}
use Rattle.warc_core.specs.declared.phase.Phase.TheVariants.{Between, Open, Failed}
use Rattle.warc_core.specs.ReaderView.{ReaderView, StandsAt}
use Rattle.archives.specs.Form.{Placed, end_of}
use Rattle.archives.specs.Packing.{Plain}
use Rattle.archives.specs.State.{ArchiveState}

-- there was no memory for the reader
abbrev pub no_memory : Fault
no_memory = record { offset = 0; cause = Memory }

abbrev pub is_between : Phase → Bool
is_between Between = true
is_between (Open left len) = false
is_between (Failed cause) = false

-- what is known of a plain archive, by its reader, or by why there is none
abbrev pub plain_state : Result ReaderView Fault → Option (List ℕ) → ℕ → ArchiveState
plain_state (Ok r) remaining failures = record {
  packing = Plain;
  is_open = is_between r.phase;
  offset = r.offset;
  ahead = prepend_known r.held remaining;
  failures = failures;
}
plain_state (Err f) remaining failures = record {
  packing = Plain;
  is_open = true;
  offset = f.offset;
  ahead = remaining;
  failures = failures;
}

-- the reader stands behind the record that was read
abbrev pub ReaderStands : {A E : Type 0} → (A → Placed) → Result (Option A) E → ReaderView → Type 0
ReaderStands placed (Ok (Some x)) new = StandsAt new (end_of (placed x).place) Between
ReaderStands placed (Ok None) new = ⊤
ReaderStands placed (Err e) new = ⊤
