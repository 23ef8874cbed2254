-- Files as they are opened.
use Rattle.std.proofs.Common.{◌≡◌, ℕ, List, Some, subst}
use Rattle.command_line.specs.Commands.{Meaning}
use Rattle.outcomes.specs.declared.outcome.Outcome.{Outcome}
use Rattle.outcomes.specs.declared.outcome.Outcome.TheVariants as outcomes
use Rattle.tasks.specs.Performing.{Openings, Performs}
use Rattle.door_examples.specs.Archives.{a_archive}
use Rattle.door_examples.specs.Scans.{plain_of}
use Rattle.door_examples.specs.Shelf.{shelf, query_line}
use Rattle.door_examples.specs.Texts.{a_line}

-- files with these bytes, by their names
abbrev pub files : Type 0 → (List ℕ → List ℕ) → (List ℕ → List ℕ) → List ℕ → Openings
files failed archive_of index_of input = record {
  TellsArchive = λ name told. told ≡ plain_of (archive_of name);
  index_of = λ name. Some (index_of name);
  ArchiveFailed = λ name. failed;
  IndexFailed = λ name. failed;
  TellsInput = λ told. told ≡ Some input;
}

-- what a task does over files with the bytes of the shelf, it does over the shelf
pub on_shelf : (failed : Type 0) (archive_of index_of : List ℕ → List ℕ) (input before after : List ℕ)
    (unchanged : Type 0) (outcome : Outcome) (task other : Meaning)
    → archive_of ≡ (λ name. a_archive) → index_of ≡ (λ name. a_line) → input ≡ query_line → outcome ≡ outcomes.Done
    → task ≡ other
    → Performs (files failed archive_of index_of input) (Some before) (Some after) unchanged outcome task
    → Performs (shelf failed) (Some before) (Some after) unchanged outcomes.Done other
on_shelf failed archive_of index_of input before after unchanged outcome task other a i n o t p =
    let told : Performs (shelf failed) (Some before) (Some after) unchanged outcome task =
    subst (λ x. Performs (files failed (λ name. a_archive) (λ name. a_line) x) (Some before) (Some after) unchanged
    outcome task) n
    (subst (λ x. Performs (files failed (λ name. a_archive) x input) (Some before) (Some after) unchanged outcome task) i
    (subst (λ x. Performs (files failed x index_of input) (Some before) (Some after) unchanged outcome task) a p)) in
    subst (λ x. Performs (shelf failed) (Some before) (Some after) unchanged outcomes.Done x) t
    (subst (λ x. Performs (shelf failed) (Some before) (Some after) unchanged x task) o told)
