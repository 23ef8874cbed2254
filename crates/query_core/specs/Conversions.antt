-- The faults of parts, as faults of the calls on indexes.
use Rattle.std.specs.Prelude.{ℕ}
use Rattle.merge_core.specs.declared.fault.FeedFault.{FeedFault}
use Rattle.merge_core.specs.declared.fault.FeedFault.TheVariants as feed
use Rattle.merge_core.specs.declared.fault.MergeFault.{MergeFault}
use Rattle.merge_core.specs.declared.fault.MergeFault.TheVariants as merge
use Rattle.devices.specs.declared.input_lines.InputLineFault.{InputLineFault}
use Rattle.devices.specs.declared.input_lines.InputLineFault.TheVariants as input
use Rattle.devices.specs.declared.write_fault.WriteFault.{WriteFault}
use Rattle.devices.specs.declared.write_fault.WriteFault.TheVariants as text
use Rattle.query_core.specs.declared.fault.AnswerFault.{AnswerFault}
use Rattle.query_core.specs.declared.fault.AnswerFault.TheVariants as fault

-- the fault of the index of this number
abbrev pub fault_of_index : ℕ → FeedFault → AnswerFault
fault_of_index i feed.Memory = fault.Memory
fault_of_index i feed.Read = fault.Read i
fault_of_index i (feed.BadLine offset) = fault.BadLine i offset
fault_of_index i (feed.OutOfOrder offset) = fault.OutOfOrder i offset

-- the fault of a merge
abbrev pub fault_of_merge : MergeFault → AnswerFault
fault_of_merge merge.Memory = fault.Memory
fault_of_merge merge.Write = fault.Write
fault_of_merge (merge.Feed i e) = fault_of_index i e

-- the fault of the writing of a text
abbrev pub fault_of_text : WriteFault → AnswerFault
fault_of_text text.Memory = fault.Memory
fault_of_text text.Write = fault.Write

-- the fault of the reading of a line of an input
abbrev pub fault_of_line : InputLineFault → AnswerFault
fault_of_line input.Memory = fault.Memory
fault_of_line other = fault.Input
