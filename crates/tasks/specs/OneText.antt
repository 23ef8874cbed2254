-- The files decide what a task that is done has written.
use Rattle.std.specs.Prelude.{◌≡◌, ℕ, ⊤, List, [], ◌∷◌, Option, Some}
use Rattle.std.specs.List.{AllByRecursion}
use Rattle.cdxj_core.specs.declared.limit.TheConstants.{LINE_LIMIT}
use Rattle.cdxj_core.specs.Indexes.{IsIndex}
use Rattle.cdxj_core.specs.Members.{Member}
use Rattle.archives.specs.Packing.{Packing}
use Rattle.archives.specs.State.{ToldArchive}
use Rattle.command_line.specs.Commands.{Meaning, ToCheck, ToGet, ToIndex, ToList, ToMerge, ToPages, ToQuery, ToScan}
use Rattle.command_line.specs.Commands.{ToServe, ToVerify}
use Rattle.outcomes.specs.declared.outcome.Outcome.{Outcome}
use Rattle.outcomes.specs.declared.outcome.Outcome.TheVariants as outcomes
use Rattle.tasks.specs.Performing.{Openings, Performs}

-- an archive that is told is these bytes, with its records kept so
pub record IsOneArchive (Tells : ToldArchive → Type 0) : Type 0 where
  pub packing : Packing
  pub bytes : List ℕ
  pub is : (told : ToldArchive) → Tells told → told ≡ record { packing = packing; bytes = Some bytes }

-- the bytes are told, and are an index
pub record IsToldIndex (told : Option (List ℕ)) : Type 0 where
  pub text : List ℕ
  pub members : List Member
  pub is : told ≡ Some text
  pub is_index : IsIndex LINE_LIMIT text members

-- standard input is these bytes
pub record IsOneInput (Tells : Option (List ℕ) → Type 0) : Type 0 where
  pub bytes : List ℕ
  pub is : (told : Option (List ℕ)) → Tells told → told ≡ Some bytes

-- the archives that a task reads
abbrev pub archives_of : Meaning → List (List ℕ)
archives_of (ToList names) = names
archives_of (ToVerify names) = names
archives_of (ToIndex types input names) = names
archives_of (ToGet len offset name) = name ∷ []
archives_of (ToScan types input sizes text names) = names
archives_of task = []

-- the indexes that it reads
abbrev pub indexes_of : Meaning → List (List ℕ)
indexes_of (ToMerge names) = names
indexes_of (ToCheck names) = names
indexes_of (ToQuery text names) = names
indexes_of (ToPages sizes text names) = names
indexes_of (ToServe names) = names
indexes_of task = []

-- standard input is known, if the task answers its lines
abbrev pub KnowsInput : Openings → Meaning → Type 0
KnowsInput files (ToServe names) = IsOneInput files.TellsInput
KnowsInput files task = ⊤

-- the bytes of all files that the task reads are known, and what it reads as indexes are indexes
pub record AreKnown (files : Openings) (task : Meaning) : Type 0 where
  pub archives : AllByRecursion (λ name. IsOneArchive (files.TellsArchive name)) (archives_of task)
  pub indexes : AllByRecursion (λ name. IsToldIndex (files.index_of name)) (indexes_of task)
  pub input : KnowsInput files task

-- a conversation's output hands on each reply, and says nothing of it then; any other task writes to the output as it is
abbrev pub IsNoConversation : Meaning → Type 0
IsNoConversation (ToServe names) = ⊥
IsNoConversation task = ⊤

-- the task ended with this outcome, and the bytes of its output were known before
abbrev pub EndsAs : {O : Type 0} → Openings → Meaning → (O → Option (List ℕ)) → List ℕ → Outcome → O → O → Type 0
EndsAs files task written before outcome old new = (written old ≡ Some before)
    × Performs files (written old) (written new) (new ≡ old) outcome task

abbrev pub IsDone : {O : Type 0} → Openings → Meaning → (O → Option (List ℕ)) → List ℕ → O → O → Type 0
IsDone files task written before old new = EndsAs files task written before outcomes.Done old new
