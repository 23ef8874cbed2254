-- Files that can't be opened, and what a command does with those that can.
use Rattle.std.specs.Prelude.{◌≡◌, ◌⊎◌, ⊤, List, ℕ, Any}
use Rattle.archives.specs.Packing.{Plain}
use Rattle.archives.specs.State.{ArchiveState, IsUnread, ToldArchive, told_of}
use Rattle.index_core.specs.declared.fault.IndexFault.TheVariants as faults
use Rattle.query_core.specs.declared.fault.AnswerFault.TheVariants as answers
use Rattle.outcomes.specs.declared.outcome.Outcome.{Outcome}
use Rattle.outcomes.specs.declared.outcome.Outcome.TheVariants as outcomes

-- nothing was read of an archive, and it is as it may be told
abbrev pub OpensAs : (ToldArchive → Type 0) → ArchiveState → Type 0
OpensAs Tells s = IsUnread s × Tells (told_of s)

-- this was done with an archive that may be told so
abbrev pub WithTold : (ToldArchive → Type 0) → (ToldArchive → Type 0) → Type 0
WithTold Tells Done = (told : ToldArchive) × Tells told × Done told

-- a plain archive of any bytes
abbrev pub IsPlain : ToldArchive → Type 0
IsPlain told = told.packing ≡ Plain

-- an archive of either form and any bytes
abbrev pub IsAny : ToldArchive → Type 0
IsAny told = ⊤

-- a file isn't opened: its opening failed, as this says, or memory did
abbrev pub IsUnopened : Type 0 → Outcome → Type 0
IsUnopened failed (outcomes.Index faults.Memory) = ⊤
IsUnopened failed outcomes.CannotOpen = failed
IsUnopened failed outcome = ⊥

-- the same of an index, whose size may not be determined either
abbrev pub IsUnopenedIndex : Type 0 → Outcome → Type 0
IsUnopenedIndex failed (outcomes.Answer (answers.Read index)) = (index ≡ 0) × failed
IsUnopenedIndex failed outcome = IsUnopened failed outcome

-- one of several indexes isn't opened, or memory failed
abbrev pub AreUnopenedIndexes : (List ℕ → Type 0) → List (List ℕ) → Outcome → Type 0
AreUnopenedIndexes Failed names (outcomes.Answer answers.Memory) = ⊤
AreUnopenedIndexes Failed names outcome = IsUnopenedIndex (Any Failed names) outcome

-- files were opened and this was done with them, or they can't be opened and nothing was written
abbrev pub OpensFirst : Type 0 → Type 0 → Type 0 → Type 0
OpensFirst unopened unchanged done = done ⊎ (unopened × unchanged)
