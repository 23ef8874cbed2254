-- A task whose files all opens doesn't end as one of which a file can't be opened.
use Rattle.std.proofs.Common.{arith, ◌≡◌, ℕ, ◌<◌, List, [], ◌∷◌, Option, Result, Err, length, map, sym, inl, inr}
use Rattle.std.proofs.lemmas.List.{length-map}
use Rattle.command_line.specs.Commands.{Meaning, ToCheck, ToGet, ToIndex, ToList, ToMerge, ToPages, ToQuery, ToScan}
use Rattle.command_line.specs.Commands.{ToServe, ToVerify}
use Rattle.query_core.specs.IndexFaults.{IsAnswerFaultOf}
use Rattle.query_core.specs.Refusals.{Refuses, too_many}
use Rattle.query_core.specs.declared.fault.AnswerFault.{AnswerFault}
use Rattle.query_core.specs.declared.fault.AnswerFault.TheVariants as answers
use Rattle.query_core.specs.declared.merging.TheConstants.{SOURCES_LIMIT}
use Rattle.index_core.specs.Indexing.{Held}
use Rattle.outcomes.specs.Outcome.{worse_of}
use Rattle.outcomes.specs.declared.outcome.Outcome.{Outcome}
use Rattle.outcomes.specs.declared.outcome.Outcome.TheVariants as outcomes
use Rattle.tasks.specs.declared.reports.ArchiveReport.{ArchiveReport}
use Rattle.tasks.specs.Checks.{ChecksOne}
use Rattle.tasks.specs.Each.{GoesOver}
use Rattle.archives.specs.State.{ToldArchive}
use Rattle.capture_core.specs.Types.{includes}
use Rattle.scan_core.specs.Scanning.{IsScanFault}
use Rattle.scan_core.specs.declared.fault.ScanFault.{ScanFault}
use Rattle.scan_core.specs.declared.fault.ScanFault.TheVariants as scans
use Rattle.std.specs.Prelude.{Bool, IfErr}
use Rattle.tasks.specs.Indexing.{AddsOne, archive_name}
use Rattle.tasks.specs.Scanning.{scan_outcome}
use Rattle.warc_core.specs.Kind.{Kind}
use Rattle.std.specs.List.{Any}
use Rattle.query_text.specs.declared.fault.QueryFault.{QueryFault}
use Rattle.tasks.specs.OneText.{IsNoConversation, indexes_of}
use Rattle.tasks.specs.OpeningLaws.{AllOpen, OpensAllFirst}
use Rattle.tasks.specs.Performing.{Openings, Performs}
use Rattle.tasks.specs.Reports.{ReportsOnOne}

-- the worse of two outcomes is one of them
worse_is_one : (a b c : Outcome) → worse_of a b ≡ c → (a ≡ c → ⊥) → (b ≡ c → ⊥) → ⊥
worse_is_one a b c is first second = grind arith

-- steps that never end so don't lead there
module _ {S : Type 0} (Step : S → List ℕ → Outcome → S → Type 0) (end : Outcome)
    (never : (state : S) (name : List ℕ) (next : S) → Step state name end next → ⊥) where
  goes_elsewhere : (reached : Outcome) (state : S) (names : List (List ℕ)) (last : S) → (reached ≡ end → ⊥)
      → GoesOver Step reached state names end last → ⊥
  goes_elsewhere reached state [] last other (is, _) = other (sym is)
  goes_elsewhere reached state (name ∷ names) last other w =
      grind (arith, worse_is_one, goes_elsewhere (worse_of reached w.0) w.1 names last)

no_name : (Failed : List ℕ → Type 0) → ((name : List ℕ) → Failed name → ⊥) → (names : List (List ℕ)) → Any Failed names → ⊥
no_name Failed opens [] h = grind arith
no_name Failed opens (name ∷ names) h = grind (arith, no_name Failed opens names)

module _ (files : Openings) (opens : AllOpen files) (before after : Option (List ℕ)) where
  report_opens : (report : ArchiveReport) (count : ℕ) (state : Option (List ℕ)) (name : List ℕ) (next : Option (List ℕ))
      → ReportsOnOne files.TellsArchive files.ArchiveFailed report count state name outcomes.CannotOpen next → ⊥
  report_opens report count state name next h = grind (arith, opens.archives name)

  check_opens : (state : Option (List ℕ)) (name : List ℕ) (next : Option (List ℕ))
      → ChecksOne files.index_of files.IndexFailed state name outcomes.CannotOpen next → ⊥
  check_opens state name next h = grind (arith, opens.indexes name)

  add_opens : (input : Option (List ℕ)) (state : Held) (name : List ℕ) (next : Held)
      → AddsOne files.TellsArchive files.ArchiveFailed input state name outcomes.CannotOpen next → ⊥
  add_opens input state name next h = grind (arith, opens.archives name)

  pub all_open : (unchanged : Type 0) (task : Meaning) → Performs files before after unchanged outcomes.CannotOpen task → ⊥
  unfolding Performs
  all_open unchanged (ToList names) h = grind (arith, goes_elsewhere, report_opens)
  all_open unchanged (ToVerify names) h = grind (arith, goes_elsewhere, report_opens)
  all_open unchanged (ToIndex types input names) h = grind (arith, goes_elsewhere, add_opens)
  all_open unchanged (ToCheck names) h = grind (arith, goes_elsewhere, check_opens)
  all_open unchanged (ToGet len offset name) h = grind (arith, opens.archives name)
  all_open unchanged (ToScan types input sizes text names) h = grind (arith, no_name files.ArchiveFailed opens.archives names)
  all_open unchanged task h = grind (arith, no_name files.IndexFailed opens.indexes)

-- ---- what is refused has written nothing

-- so many indexes are refused
refuses : {A : Type 0} (count : ℕ) (answer : Result A AnswerFault) (unchanged : Type 0) → SOURCES_LIMIT < count
    → Refuses (too_many count) answer unchanged → (answer ≡ Err answers.TooManySources) × unchanged
refuses count answer unchanged many refused = grind arith

module _ (files : Openings) (before after : Option (List ℕ)) (unchanged : Type 0) (keeps : unchanged → after ≡ before) where
  pub unopened_keeps : (task : Meaning) → OpensAllFirst task → Performs files before after unchanged outcomes.CannotOpen task
      → after ≡ before
  unfolding Performs
  unopened_keeps task first h = grind arith

  pub many_keep : (outcome : Outcome) (task : Meaning) → OpensAllFirst task → SOURCES_LIMIT < length (indexes_of task)
      → Performs files before after unchanged outcome task → (outcome ≡ outcomes.Done → ⊥) × (after ≡ before)
  unfolding Performs
  many_keep outcome (ToMerge names) first many h = grind (arith, length-map, refuses)
  many_keep outcome (ToQuery text names) first many h = grind (arith, length-map, refuses)
  many_keep outcome (ToServe names) first many h = grind (arith, length-map, refuses)
  many_keep outcome (ToPages sizes text names) first many h = grind (arith, length-map)
  many_keep outcome task first many h = grind arith

  module _ (fault : QueryFault) where
    report_reads_none : (report : ArchiveReport) (count : ℕ) (state : Option (List ℕ)) (name : List ℕ)
        (next : Option (List ℕ))
        → ReportsOnOne files.TellsArchive files.ArchiveFailed report count state name (outcomes.Query fault) next → ⊥
    report_reads_none report count state name next h = grind arith

    check_reads_none : (state : Option (List ℕ)) (name : List ℕ) (next : Option (List ℕ))
        → ChecksOne files.index_of files.IndexFailed state name (outcomes.Query fault) next → ⊥
    check_reads_none state name next h = grind arith

    add_reads_none : (input : Option (List ℕ)) (state : Held) (name : List ℕ) (next : Held)
        → AddsOne files.TellsArchive files.ArchiveFailed input state name (outcomes.Query fault) next → ⊥
    add_reads_none input state name next h = grind arith

    pub refused_keeps : (task : Meaning) → Performs files before after unchanged (outcomes.Query fault) task
        → after ≡ before
    unfolding Performs
    refused_keeps (ToList names) h = grind (arith, goes_elsewhere, report_reads_none)
    refused_keeps (ToVerify names) h = grind (arith, goes_elsewhere, report_reads_none)
    refused_keeps (ToIndex types input names) h = grind (arith, goes_elsewhere, add_reads_none)
    refused_keeps (ToCheck names) h = grind (arith, goes_elsewhere, check_reads_none)
    refused_keeps task h = grind arith

-- ---- lines that are named

-- a scan names no line
scan_names_none : (types : Kind → Bool) (names : List (List ℕ)) (inputs : List ToldArchive) (sizes text : List ℕ)
    (fault : AnswerFault) → IsScanFault types names inputs sizes text (scans.Answer fault) → IsAnswerFaultOf [] fault
unfolding IsScanFault
scan_names_none types names inputs sizes text fault h = grind arith

scan_at_fault : (types : Kind → Bool) (names : List (List ℕ)) (inputs : List ToldArchive) (sizes text : List ℕ)
    (answer : Result ℕ ScanFault) (fault : AnswerFault) → outcomes.Answer fault ≡ scan_outcome answer
    → IfErr answer (IsScanFault types names inputs sizes text) → IsAnswerFaultOf [] fault
scan_at_fault types names inputs sizes text (Err (scans.Answer other)) fault e h =
    let same : fault ≡ other = grind arith in rw same (scan_names_none types names inputs sizes text other h)
scan_at_fault types names inputs sizes text answer fault e h = absurd (grind arith)

module _ (files : Openings) (before after : Option (List ℕ)) (unchanged : Type 0) (fault : AnswerFault) where
  pub named_at_fault : (task : Meaning) → OpensAllFirst task → IsNoConversation task
      → Performs files before after unchanged (outcomes.Answer fault) task
      → IsAnswerFaultOf (map files.index_of (indexes_of task)) fault
  unfolding Performs
  named_at_fault (ToMerge names) first alone h = grind arith
  named_at_fault (ToQuery text names) first alone h = grind arith
  named_at_fault (ToPages sizes text names) first alone h = grind arith
  named_at_fault (ToScan types input sizes text names) first alone (inl (query, asked, inl (told, tells, scan))) =
      scan_at_fault (includes types) (map (archive_name input) names) told sizes text scan.answer fault scan.outcome_is
      scan.fault
  named_at_fault (ToScan types input sizes text names) first alone (inl (query, asked, inr unopened)) = absurd unopened.0
  named_at_fault (ToScan types input sizes text names) first alone (inr refused) = absurd refused.0
  named_at_fault task first alone h = grind arith
