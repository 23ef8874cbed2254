-- The pages of a query over archives that a command writes.
use Rattle.std.specs.Prelude.{◌≡◌, ℕ, Any, Bool, List, map, Option, Result, Ok, Err, IfErr, string_bytes}
use Rattle.std.specs.List.{AllZip}
use Rattle.warc_core.specs.Kind.{Kind}
use Rattle.archives.specs.State.{ArchiveState, ToldArchive}
use Rattle.scan_core.specs.declared.fault.ScanFault.{ScanFault}
use Rattle.scan_core.specs.declared.fault.ScanFault.TheVariants as scans
use Rattle.scan_core.specs.declared.named.Named.{Named}
use Rattle.scan_core.specs.Scanning.{Scanned, IsScanFault, IsBeforeWriting}
use Rattle.tasks.specs.Indexing.{archive_name}
use Rattle.tasks.specs.Opening.{IsUnopened, OpensAs, OpensFirst}
use Rattle.tasks.specs.Queries.{ReadsFirst}
use Rattle.outcomes.specs.declared.outcome.Outcome.{Outcome}
use Rattle.outcomes.specs.declared.outcome.Outcome.TheVariants as outcomes

-- the names under which archives are scanned
abbrev pub archive_names : {I : Type 0} → List (Named I) → List (List ℕ)
archive_names archives = map (λ archive. string_bytes archive.name) archives

-- the archives that are scanned
abbrev pub inputs : {A : Type 0} → List (Named A) → List A
inputs archives = map (λ archive. archive.archive) archives

-- archives of these names were opened: each stands under the name under which it is indexed, and is as it may be told
pub record AreOpened {A : Type 0} (state : A → ArchiveState) (Tells : List ℕ → ToldArchive → Type 0)
    (input : Option (List ℕ)) (names : List (List ℕ)) (archives : List (Named A)) : Type 0 where
  pub named : archive_names archives ≡ map (archive_name input) names
  pub opened : AllZip (λ name s. OpensAs (Tells name) s) names (map (λ archive. state archive.archive) archives)

-- how a scan ended
abbrev pub scan_outcome : {A : Type 0} → Result A ScanFault → Outcome
scan_outcome (Ok answer) = outcomes.Done
scan_outcome (Err (scans.Query fault)) = outcomes.Query fault
scan_outcome (Err (scans.Archive archive fault)) = outcomes.Index fault
scan_outcome (Err (scans.Answer fault)) = outcomes.Answer fault

-- archives of these names were scanned for records of these types: the pages were written, or none or no more of them
-- for this fault
pub record ScansArchives (types : Kind → Bool) (names : List (List ℕ)) (inputs : List ToldArchive)
    (sizes query : List ℕ) (before after : Option (List ℕ)) (outcome : Outcome) : Type 0 where
  pub answer : Result ℕ ScanFault
  pub outcome_is : outcome ≡ scan_outcome answer
  pub scanned : IfErr answer (λ fault. IsBeforeWriting fault → ⊥)
      → Scanned types names inputs sizes query answer before after
  pub fault : IfErr answer (IsScanFault types names inputs sizes query)
  pub unwritten : IfErr answer (λ fault. IsBeforeWriting fault → after ≡ before)

-- archives that may be told so by these names were scanned
abbrev pub ScansTold : (List ℕ → ToldArchive → Type 0) → (Kind → Bool) → List (List ℕ) → List (List ℕ) → List ℕ → List ℕ
    → Option (List ℕ) → Option (List ℕ) → Outcome → Type 0
ScansTold Tells types named names sizes query before after outcome = (told : List ToldArchive) × AllZip Tells names told
    × ScansArchives types named told sizes query before after outcome

-- the query text was read, the archives of these names were opened, and then they were scanned under the names under
-- which they are indexed; or nothing was written, as the query is refused or an archive can't be opened
abbrev pub ScansNamed : (List ℕ → ToldArchive → Type 0) → (List ℕ → Type 0) → (Kind → Bool) → Option (List ℕ) → List ℕ
    → List ℕ → List (List ℕ) → Option (List ℕ) → Option (List ℕ) → Type 0 → Outcome → Type 0
ScansNamed Tells Failed types input sizes query names before after unchanged outcome =
    ReadsFirst query outcome unchanged (λ _. OpensFirst (IsUnopened (Any Failed names) outcome) unchanged
    (ScansTold Tells types (map (archive_name input) names) names sizes query before after outcome))
