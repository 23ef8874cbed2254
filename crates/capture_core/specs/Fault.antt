-- What is said of a capture's fault.
use Rattle.std.specs.Prelude.{ℕ, List, codes}
use Rattle.warc_core.specs.Cause.{cause_name}
use Rattle.capture_core.specs.declared.fault.CaptureFault.{CaptureFault}
use Rattle.capture_core.specs.declared.fault.CaptureFault.TheVariants.{Archive, LineTooLong, KeyTooLong}

-- where the record at fault begins
abbrev pub fault_offset : CaptureFault → ℕ
fault_offset (Archive f) = f.offset
fault_offset (LineTooLong offset) = offset
fault_offset (KeyTooLong offset) = offset

-- the name of a fault's cause, as listings print it
abbrev pub capture_fault_name : CaptureFault → List ℕ
capture_fault_name (Archive f) = cause_name f.cause
capture_fault_name (LineTooLong offset) = codes "LineTooLong"
capture_fault_name (KeyTooLong offset) = codes "KeyTooLong"
