-- What calls that read a source do to it.
use Rattle.std.specs.Prelude.{◌≡◌, Result}
use Rattle.devices.specs.Device.{CountsFailure}
use Rattle.source_core.specs.Cursors.{CursorState, IsFresh, Stands}
use Rattle.source_core.specs.Device.{OverText}
use Rattle.source_core.specs.IndexLines.{IsLineStart}
use Rattle.source_core.specs.declared.source.Source.{Ghosts}

-- a call keeps a source's bytes, and their number
abbrev pub KeepsSource : {S : Type 0} → Ghosts S → S → S → Type 0
KeepsSource device old new = (device.text new ≡ device.text old) × (device.extent new ≡ device.extent old)

-- a call that reads a source keeps it, and its fault is a failure of the source
abbrev pub ReadsSource : {S A E : Type 0} → Ghosts S → Result A E → S → S → Type 0
ReadsSource device result old new =
    KeepsSource device old new × CountsFailure result (device.failures old) (device.failures new)

-- a cursor stands in a source
abbrev pub StandsIn : {S : Type 0} → Ghosts S → S → CursorState → Type 0
StandsIn device source c = Stands (device.text source) (device.extent source) c

-- a cursor stands where a line of a source begins, or at its end, and gave no line yet
pub record BeginsIn {S : Type 0} (device : Ghosts S) (source : S) (c : CursorState) : Type 0 where
  pub stands : StandsIn device source c
  pub fresh : IsFresh c c.start
  pub begins : OverText (device.text source) (λ t. IsLineStart t c.start)
