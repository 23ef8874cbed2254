-- What the files of disks decide.
use Rattle.std.proofs.Common.{◌≡◌, ℕ, List, [], ◌∷◌, Some, refl}
use Rattle.std.specs.Prelude.{⊤}
use Rattle.std.specs.List.{AllByRecursion}
use Rattle.index_core.specs.Packing.{Plain}
use Rattle.cdxj_core.specs.declared.limit.TheConstants.{LINE_LIMIT}
use Rattle.cdxj_core.specs.{Indexes.IsIndex, Members.Member}
use Rattle.command_line.specs.Commands.{Meaning, ToServe}
use Rattle.tasks.specs.OneText.{AreKnown, KnowsInput, archives_of, indexes_of}
use Rattle.tasks.specs.Performing.{Openings}

all_of : {X : Type 0} (P : X → Type 0) → ((x : X) → P x) → (xs : List X) → AllByRecursion P xs
all_of P p [] = tt
all_of P p (x ∷ xs) = (p x, all_of P p xs)

all_more : {X : Type 0} (P Q : X → Type 0) → ((x : X) → P x → Q x) → (xs : List X) → AllByRecursion P xs
    → AllByRecursion Q xs
all_more P Q more [] h = tt
all_more P Q more (x ∷ xs) h = (more x h.0, all_more P Q more xs h.1)

-- the bytes of the files of each name, and standard input
module _ (archives indexes : List ℕ → List ℕ) (input : List ℕ) where
  abbrev pub disk_openings : Openings
  disk_openings = record {
    TellsArchive = λ name told. told ≡ record { packing = Plain; bytes = Some (archives name) };
    index_of = λ name. Some (indexes name);
    ArchiveFailed = λ name. ⊤;
    IndexFailed = λ name. ⊤;
    TellsInput = λ told. told ≡ Some input;
  }

  knows_input : (task : Meaning) → KnowsInput disk_openings task
  knows_input (ToServe names) = record { bytes = input; is = λ told e. e }
  knows_input task = tt

  -- they are known
  pub disk_known : (task : Meaning)
      → AllByRecursion (λ name. (members : List Member) × IsIndex LINE_LIMIT (indexes name) members) (indexes_of task)
      → AreKnown disk_openings task
  disk_known task are = record {
    archives = all_of _ (λ name. record { packing = Plain; bytes = archives name; is = λ told e. e }) (archives_of task);
    indexes = all_more _ _ (λ name index. record {
      text = indexes name;
      members = index.0;
      is = refl;
      is_index = index.1;
    }) (indexes_of task) are;
    input = knows_input task;
  }
