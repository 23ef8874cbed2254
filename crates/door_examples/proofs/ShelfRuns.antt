-- What the program writes of files in memory, by its arguments.
use Rattle.std.proofs.Common.{◌≡◌, ◌∙◌, ℕ, List, [], ◌∷◌, ◌++◌, Option, Some, Result, Ok, Err, codes, refl, ap, subst}
use Rattle.command_line.specs.Commands.{Meaning, Refusal, Usage, ToList, ToQuery, ToVerify, asked}
use Rattle.devices.specs.Gathered.{gathered, gather_failures}
use Rattle.devices.specs.declared.memory.Gather.{Gather}
use Rattle.outcomes.specs.declared.outcome.Outcome.TheVariants as outcomes
use Rattle.tasks.specs.Performing.{Performs}
use Rattle.tasks.specs.Running.{Begins, EndsWith0}
use Rattle.index_core.specs.Laws.{PlainIsWhole}
use Rattle.door_examples.specs.Archives.{a_archive}
use Rattle.door_examples.specs.Shelf.{archive_name, index_name, query_line, shelf}
use Rattle.door_examples.specs.Texts.{a_line, orgs_text}
use Rattle.door_examples.proofs.ShelfFiles.{files, on_shelf}
use Rattle.door_examples.proofs.ShelfReports.{HasOneReading, lists, verifies}
use Rattle.door_examples.proofs.ShelfQueries.{queries}

list_is : asked (codes "list" ∷ archive_name ∷ []) ≡ Ok (ToList (archive_name ∷ []))
list_is = refl

verify_is : asked (codes "verify" ∷ archive_name ∷ []) ≡ Ok (ToVerify (archive_name ∷ []))
verify_is = refl

query_is : asked (codes "query" ∷ orgs_text ∷ index_name ∷ []) ≡ Ok (ToQuery orgs_text (index_name ∷ []))
query_is = refl

unknown_is : asked (codes "lst" ∷ archive_name ∷ []) ≡ Err Usage
unknown_is = refl

-- all names are those of these bytes
abbrev all_names : List ℕ → List ℕ → List ℕ
all_names bytes name = bytes

abbrev held : Gather → Option (List ℕ)
held g = Some (gathered g)

module _ (archive index input : List ℕ) (a : archive ≡ a_archive) (i : index ≡ a_line) (n : input ≡ query_line)
    (old new : Gather) where
  abbrev Ends : Result Meaning Refusal → Type 0
  Ends wanted = EndsWith0 held held gather_failures (files ⊥ (λ name. archive) (λ name. index) input) wanted old new

  -- a task that writes a text wherever it begins has written it, if it begins at the output as it is
  wrote : (task : Meaning) (text : List ℕ)
      → ((begun : Gather) → Begins held held gather_failures task old begun → begun ≡ old)
      → ((before after : List ℕ) (unchanged : Type 0)
      → Performs (shelf ⊥) (Some before) (Some after) unchanged outcomes.Done task → after ≡ before ++ text)
      → Ends (Ok task) → gathered new ≡ gathered old ++ text
  wrote task text begins writes d = d.kept ∙ writes (gathered d.begun) (gathered d.ended) (d.ended ≡ d.begun)
      (on_shelf ⊥ _ _ input (gathered d.begun) (gathered d.ended) (d.ended ≡ d.begun) outcomes.Done task task
      (ap all_names a) (ap all_names i) n refl refl d.performs) ∙ ap (λ xs. xs ++ text) (ap gathered (begins d.begun d.begins))

  module _ (words : List (List ℕ)) (ends : Ends (asked words)) where
    by_words : (those : List (List ℕ)) (wanted : Result Meaning Refusal) → words ≡ those → asked those ≡ wanted
        → Ends wanted
    by_words those wanted same is = subst Ends is (subst (λ ws. Ends (asked ws)) same ends)

    pub list_runs : HasOneReading → PlainIsWhole → words ≡ codes "list" ∷ archive_name ∷ []
        → gathered new ≡ gathered old ++ codes "0 201 resource\n"
    list_runs one whole same = wrote _ _ (λ begun is. is) (λ before after unchanged. lists ⊥ before after unchanged one whole)
        (by_words _ _ same list_is)

    pub verify_runs : HasOneReading → PlainIsWhole → words ≡ codes "verify" ∷ archive_name ∷ []
        → gathered new ≡ gathered old ++ codes "0 absent\n"
    verify_runs one whole same = wrote _ _ (λ begun is. is) (λ before after unchanged. verifies ⊥ before after unchanged one whole)
        (by_words _ _ same verify_is)

    pub query_runs : words ≡ codes "query" ∷ orgs_text ∷ index_name ∷ []
        → gathered new ≡ gathered old ++ codes "org,a)/ 0\n"
    query_runs same = wrote _ _ (λ begun is. is) (queries ⊥) (by_words _ _ same query_is)

    pub unknown_runs : words ≡ codes "lst" ∷ archive_name ∷ [] → ⊥
    unknown_runs same = by_words _ _ same unknown_is
