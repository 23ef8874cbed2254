-- What is said of a fault of a call on an archive.
use Rattle.std.specs.Prelude.{ℕ, List, codes}
use Rattle.capture_core.specs.Fault.{capture_fault_name}
use Rattle.index_core.specs.declared.fault.IndexFault.{IndexFault}
use Rattle.index_core.specs.declared.fault.IndexFault.TheVariants as fault

-- the name of the fault, as the program prints it
abbrev pub index_fault_name : IndexFault → List ℕ
index_fault_name fault.Memory = codes "Memory"
index_fault_name (fault.Capture f) = capture_fault_name f
index_fault_name fault.BadName = codes "BadName"
index_fault_name fault.DuplicateName = codes "DuplicateName"
index_fault_name fault.Write = codes "Write"
index_fault_name fault.NoRecord = codes "NoRecord"
