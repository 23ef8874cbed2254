-- The name of an archive in an index, its adding, and the writing of an index.
use Rattle.std.specs.Prelude.{◌≡◌, ◌↔◌, ℕ, List, Option, None, Some, if◌then◌else◌, Bool, true, ◌==◌, Result, Ok, Err}
use Rattle.std.specs.Prelude.{IfErr, MatchBool, [], option_map}
use Rattle.std.specs.Borrow.{Bor}
use Rattle.std.specs.List.{after_last}
use Rattle.devices.specs.Writing.{WritesText}
use Rattle.capture_core.specs.Types.{includes}
use Rattle.capture_core.specs.declared.types.Types.{Types}
use Rattle.capture_core.specs.CaptureAnswer.{usual_limits}
use Rattle.command_line.specs.Commands.{is_input}
use Rattle.index_core.specs.declared.fault.IndexFault.{IndexFault}
use Rattle.index_core.specs.declared.fault.IndexFault.TheVariants as faults
use Rattle.archives.specs.Packing.{form_of}
use Rattle.archives.specs.State.{ToldArchive}
use Rattle.index_core.specs.Adding.{Adds}
use Rattle.index_core.specs.Indexing.{Held, IsName, IsWriteFault, index_text, is_among}
use Rattle.outcomes.specs.declared.outcome.Outcome.{Outcome}
use Rattle.outcomes.specs.declared.outcome.Outcome.TheVariants as outcomes
use Rattle.tasks.specs.Each.{GoesOver}
use Rattle.tasks.specs.Opening.{IsUnopened, OpensFirst, WithTold}
use Rattle.outcomes.specs.Outcome.{outcome_of, ends_command}

-- `/`
abbrev pub is_slash : ℕ → Bool
is_slash byte = byte == 47

-- what stands after the last `/`, or the whole name where there is none
abbrev pub file_name : List ℕ → List ℕ
file_name name = after_last is_slash name

-- the bytes of a name, where one is given
abbrev pub bytes_of_name : Option (Bor (List ℕ)) → Option (List ℕ)
bytes_of_name given = option_map (λ name. name.now) given

-- an archive's name: for standard input, the one that is given to it
abbrev pub given_name : Option (List ℕ) → List ℕ → List ℕ
given_name None name = name
given_name (Some given) name = if is_input name then given else name

-- the name under which an archive is indexed
abbrev pub archive_name : Option (List ℕ) → List ℕ → List ℕ
archive_name input name = file_name (given_name input name)

-- an archive was added under a name, by the outcome
pub record AddsArchive (name : List ℕ) (archive : ToldArchive) (old new : Held) (outcome : Outcome) : Type 0 where
  pub answer : Result ℕ IndexFault
  pub outcome_is : outcome ≡ outcome_of answer
  pub bad : (answer ≡ Err faults.BadName) ↔ ¬ (IsName name)
  pub duplicate : (answer ≡ Err faults.DuplicateName)
      ↔ (IsName name × (is_among old.names name ≡ true))
  pub adds : Adds (includes old.types) usual_limits (form_of archive.packing) name archive.bytes old new answer

-- the outcome of the adding, unless the writing was refused
abbrev pub unless_refused : {A : Type 0} → Outcome → Result A IndexFault → Outcome
unless_refused added (Ok number) = added
unless_refused added (Err fault) = outcomes.Index fault

-- the index was written, whole or in part
abbrev pub WritesIndex : Held → Outcome → Option (List ℕ) → Option (List ℕ) → Outcome → Type 0
WritesIndex held added before after outcome =
    (answer : Result ℕ IndexFault) × (outcome ≡ unless_refused added answer) × IfErr answer IsWriteFault
    × WritesText answer before after (index_text held.captures)

-- the archive of this name was added, unless it couldn't be opened
abbrev pub AddsOne : (List ℕ → ToldArchive → Type 0) → (List ℕ → Type 0) → Option (List ℕ) → Held → List ℕ → Outcome
    → Held → Type 0
AddsOne Tells Failed input old name outcome new = OpensFirst (IsUnopened (Failed name) outcome) (new ≡ old)
    (WithTold (Tells name) (λ told. AddsArchive (archive_name input name) told old new outcome))

-- nothing, of these types
abbrev pub nothing_of : Types → Held
nothing_of chosen = record { types = chosen; names = []; captures = [] }

-- the archives of these names were added, one after another, and the index of what was added was written, unless adding
-- ended the command
abbrev pub IndexesArchives : (List ℕ → ToldArchive → Type 0) → (List ℕ → Type 0) → Types → Option (List ℕ)
    → List (List ℕ) → Option (List ℕ) → Option (List ℕ) → Type 0 → Outcome → Type 0
IndexesArchives Tells Failed types input names before after unchanged outcome =
    (held : Held) × (added : Outcome)
    × GoesOver (AddsOne Tells Failed input) outcomes.Done (nothing_of types) names added held
    × MatchBool (ends_command added) ((outcome ≡ added) × unchanged) (WritesIndex held added before after outcome)
