-- Which answers go with a failure of the input or of the output.
use Rattle.std.specs.Prelude.{◌≡◌, ◌⊎◌, ℕ, Result, Ok, Err}
use Rattle.devices.specs.Device.{next_count}
use Rattle.warc_core.specs.Answers.{CountsRead}
use Rattle.capture_core.specs.declared.fault.CaptureFault.TheVariants.{Archive}
use Rattle.index_core.specs.declared.fault.IndexFault.{IndexFault}
use Rattle.index_core.specs.declared.fault.IndexFault.TheVariants as faults

-- An answer of Read goes with one more failure of the input, any other with none.
abbrev pub CountsIndex : {A : Type 0} → Result A IndexFault → ℕ → ℕ → Type 0
CountsIndex (Err (faults.Capture (Archive f))) old new = CountsRead {A = Unit {0}} (Err f.cause) old new
CountsIndex r old new = new ≡ old

-- An answer of Read goes with one more failure of the input, any other of the archive's with none. It failed at most
-- once.
abbrev pub CountsInput : {A : Type 0} → Result A IndexFault → ℕ → ℕ → Type 0
CountsInput (Ok n) old new = new ≡ old
CountsInput (Err (faults.Capture (Archive f))) old new = CountsRead {A = Unit {0}} (Err f.cause) old new
CountsInput (Err faults.Write) old new = (new ≡ old) ⊎ (new ≡ next_count old)
CountsInput (Err other) old new = ⊥

-- An answer of Write goes with one more failure of the output, any other with none.
abbrev pub CountsIndexWrite : {A : Type 0} → Result A IndexFault → ℕ → ℕ → Type 0
CountsIndexWrite (Err faults.Write) old new = new ≡ next_count old
CountsIndexWrite r old new = new ≡ old
