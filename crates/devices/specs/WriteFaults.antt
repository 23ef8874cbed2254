-- What the answer of a call that writes says of its output.
use Rattle.std.specs.Prelude.{◌≡◌, ℕ, Result, MatchResult}
use Rattle.devices.specs.Device.{next_count}
use Rattle.devices.specs.declared.write_fault.WriteFault.{WriteFault}
use Rattle.devices.specs.declared.write_fault.WriteFault.TheVariants.{Memory, Write}

-- the count of the output, before and after a fault
abbrev pub RaisedByWriting : WriteFault → ℕ → ℕ → Type 0
RaisedByWriting Memory old new = new ≡ old
RaisedByWriting Write old new = new ≡ next_count old

-- the same of a call: Write is answered exactly where the output failed
abbrev pub CountsWriteFault : {A : Type 0} → Result A WriteFault → ℕ → ℕ → Type 0
CountsWriteFault result old new = MatchResult result (λ _. new ≡ old)
    (λ fault. RaisedByWriting fault old new)
