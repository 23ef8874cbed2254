-- The names of faults, and faults that name lines.
use Rattle.std.specs.Prelude.{◌≡◌, ℕ, ◌<◌, ⊤, List, length, get_or, codes, Option, None, Some}
use Rattle.cdxj_core.specs.declared.limit.TheConstants.{LINE_LIMIT}
use Rattle.source_core.specs.LinesAtFault.{IsBadLine, IsOutOfOrder}
use Rattle.query_core.specs.declared.fault.AnswerFault.{AnswerFault}
use Rattle.query_core.specs.declared.fault.AnswerFault.TheVariants as fault

-- the names of faults
abbrev pub answer_fault_name : AnswerFault → List ℕ
answer_fault_name fault.Memory = codes "Memory"
answer_fault_name (fault.Read i) = codes "Read"
answer_fault_name fault.Write = codes "Write"
answer_fault_name (fault.BadLine i offset) = codes "BadLine"
answer_fault_name (fault.OutOfOrder i offset) = codes "OutOfOrder"
answer_fault_name fault.TooManySources = codes "TooManySources"
answer_fault_name fault.BadSizes = codes "BadSizes"
answer_fault_name fault.Input = codes "Input"

-- what the text of this source is, where it is told
abbrev pub IfTold : List (Option (List ℕ)) → ℕ → (List ℕ → Type 0) → Type 0
IfTold texts i P = (i < length texts) × ((text : List ℕ) → get_or texts i None ≡ Some text → P text)

-- a line that the fault names is such a line of the source that it names, where that source tells its bytes
abbrev pub IsAnswerFaultOf : List (Option (List ℕ)) → AnswerFault → Type 0
IsAnswerFaultOf texts (fault.BadLine i offset) = IfTold texts i (λ text. IsBadLine LINE_LIMIT text offset)
IsAnswerFaultOf texts (fault.OutOfOrder i offset) = IfTold texts i (λ text. IsOutOfOrder LINE_LIMIT text offset)
IsAnswerFaultOf texts other = ⊤

-- the fault names no line
abbrev pub NamesNoLine : AnswerFault → Type 0
NamesNoLine (fault.BadLine i offset) = ⊥
NamesNoLine (fault.OutOfOrder i offset) = ⊥
NamesNoLine other = ⊤
