-- How commands end, and the status of the process.
use Rattle.std.specs.Prelude.{◌≡◌, ℕ, List, Bool, true, false, nat_lt, if◌then◌else◌, Option, Some, None, Result, Ok, Err}
use Rattle.std.specs.Prelude.{codes}
use Rattle.warc_core.specs.declared.fault.Cause.{Cause}
use Rattle.warc_core.specs.declared.fault.Cause.TheVariants as causes
use Rattle.capture_core.specs.declared.fault.CaptureFault.{CaptureFault}
use Rattle.capture_core.specs.declared.fault.CaptureFault.TheVariants as captures
use Rattle.index_core.specs.declared.fault.IndexFault.{IndexFault}
use Rattle.index_core.specs.declared.fault.IndexFault.TheVariants as faults
use Rattle.index_core.specs.declared.verified.Verified.{Verified}
use Rattle.query_core.specs.declared.fault.AnswerFault.{AnswerFault}
use Rattle.query_core.specs.declared.fault.AnswerFault.TheVariants as answers
use Rattle.query_text.specs.declared.fault.QueryFault.{QueryFault}
use Rattle.query_text.specs.declared.fault.QueryFault.TheVariants as queries
use Rattle.outcomes.specs.declared.outcome.Outcome.{Outcome}
use Rattle.outcomes.specs.declared.outcome.Outcome.TheVariants as outcomes

-- memory, reading and writing fail with 3; an archive's own faults, refused names and an offset without a record with 1
abbrev pub cause_status : Cause → ℕ
cause_status causes.Memory = 3
cause_status causes.Read = 3
cause_status c = 1

abbrev pub capture_status : CaptureFault → ℕ
capture_status (captures.Archive f) = cause_status f.cause
capture_status f = 1

abbrev pub index_status : IndexFault → ℕ
index_status faults.Memory = 3
index_status (faults.Capture f) = capture_status f
index_status faults.BadName = 1
index_status faults.DuplicateName = 1
index_status faults.Write = 3
index_status faults.NoRecord = 1

-- a text that means nothing
abbrev pub query_status : QueryFault → ℕ
query_status queries.Memory = 3
query_status f = 1

-- memory, a source, the output and the input fail with 3; sizes that mean nothing are a fault of usage
abbrev pub answer_status : AnswerFault → ℕ
answer_status answers.Memory = 3
answer_status (answers.Read i) = 3
answer_status answers.Write = 3
answer_status (answers.BadLine i offset) = 1
answer_status (answers.OutOfOrder i offset) = 1
answer_status answers.TooManySources = 1
answer_status answers.BadSizes = 2
answer_status answers.Input = 3

unfoldable pub exit_status_of : Outcome → ℕ
exit_status_of outcomes.Done = 0
exit_status_of outcomes.Differs = 1
exit_status_of outcomes.Usage = 2
exit_status_of (outcomes.Index f) = index_status f
exit_status_of (outcomes.Query f) = query_status f
exit_status_of (outcomes.Answer f) = answer_status f
exit_status_of outcomes.CannotOpen = 3
exit_status_of outcomes.CannotFlush = 3

-- memory and writing end a command at once; after any other fault it goes on with the next file
abbrev pub is_memory : Cause → Bool
is_memory causes.Memory = true
is_memory c = false

abbrev pub capture_ends : CaptureFault → Bool
capture_ends (captures.Archive f) = is_memory f.cause
capture_ends f = false

unfoldable pub ends_command : Outcome → Bool
ends_command (outcomes.Index faults.Memory) = true
ends_command (outcomes.Index faults.Write) = true
ends_command (outcomes.Index (faults.Capture f)) = capture_ends f
ends_command (outcomes.Query queries.Memory) = true
ends_command (outcomes.Answer answers.Memory) = true
ends_command (outcomes.Answer answers.Write) = true
ends_command o = false

-- of two outcomes the one with the greater status, the first where it is one
abbrev pub worse_of : Outcome → Outcome → Outcome
worse_of a b = if nat_lt (exit_status_of a) (exit_status_of b) then b else a

-- how a call on an archive ended
abbrev pub outcome_of : {A : Type 0} → Result A IndexFault → Outcome
outcome_of (Ok answer) = outcomes.Done
outcome_of (Err fault) = outcomes.Index fault

-- how a call on indexes ended
abbrev pub answered_outcome : {A : Type 0} → Result A AnswerFault → Outcome
answered_outcome (Ok answer) = outcomes.Done
answered_outcome (Err fault) = outcomes.Answer fault

-- how a verification ended: something differs where at least one block does
abbrev pub verification_outcome : Result Verified IndexFault → Outcome
verification_outcome (Ok verified) = if nat_lt 0 verified.differing then outcomes.Differs else outcomes.Done
verification_outcome (Err fault) = outcomes.Index fault

-- an outcome as the answer of a call
abbrev pub answer_of : Outcome → Result (Unit {0}) IndexFault
answer_of (outcomes.Index fault) = Err fault
answer_of outcome = Ok tt

-- how a command ends whose output could be flushed, or couldn't be: memory and a failed write are said in the stead of
-- that
abbrev pub flushed_outcome : Outcome → Bool → Outcome
flushed_outcome outcome true = outcome
flushed_outcome (outcomes.Index faults.Memory) false = outcomes.Index faults.Memory
flushed_outcome (outcomes.Index faults.Write) false = outcomes.Index faults.Write
flushed_outcome (outcomes.Query queries.Memory) false = outcomes.Query queries.Memory
flushed_outcome (outcomes.Answer answers.Memory) false = outcomes.Answer answers.Memory
flushed_outcome (outcomes.Answer answers.Write) false = outcomes.Answer answers.Write
flushed_outcome outcome false = outcomes.CannotFlush

-- the exit status is 0 only after what was done, with an output that could be flushed
abbrev pub ZeroIsDone : Type 0
ZeroIsDone = (outcome : Outcome) (flushed : Bool) → exit_status_of (flushed_outcome outcome flushed) ≡ 0
    → (outcome ≡ outcomes.Done) × (flushed ≡ true)

-- what is said at a command's end
abbrev pub message_of : Outcome → Option (List ℕ)
message_of (outcomes.Index faults.Memory) = Some (codes "Memory")
message_of (outcomes.Index faults.Write) = Some (codes "Write")
message_of (outcomes.Query queries.Memory) = Some (codes "Memory")
message_of (outcomes.Answer answers.Memory) = Some (codes "Memory")
message_of (outcomes.Answer answers.Write) = Some (codes "Write")
message_of (outcomes.Answer answers.TooManySources) = Some (codes "TooManySources")
message_of (outcomes.Answer answers.Input) = Some (codes "Input")
message_of outcomes.CannotFlush = Some (codes "cannot flush")
message_of outcome = None
