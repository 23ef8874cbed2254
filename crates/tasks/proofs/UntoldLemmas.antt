-- What is promised over bytes that are told is promised without them.
use Rattle.std.proofs.Common.{arith, ◌≡◌, ℕ, Bool, List, [], ◌∷◌, Option, None, Some, Result, get_or, inl, inr, map, refl, take}
use Rattle.std.proofs.Common.{suc, zero}
use Rattle.std.specs.List.{AllZip}
use Rattle.devices.specs.LineCuts.{without_carriage_return}
use Rattle.warc_core.specs.Kind.{Kind}
use Rattle.cdxj_core.specs.Entries.{EntryValue}
use Rattle.archives.specs.Form.{Form}
use Rattle.archives.specs.Packing.{Packing, Packed, Plain}
use Rattle.archives.specs.State.{ToldArchive}
use Rattle.command_line.specs.Commands.{Meaning, ToGet, ToIndex, ToList, ToScan, ToServe, ToVerify}
use Rattle.index_core.specs.Fetching.{Fetches}
use Rattle.index_core.specs.FetchingAt.{FetchesAt}
use Rattle.index_core.specs.FetchingIn.{FetchesIn, FetchesMember}
use Rattle.index_core.specs.Indexing.{Held}
use Rattle.index_core.specs.Report.{Reports, Wording}
use Rattle.index_core.specs.declared.fault.IndexFault.{IndexFault}
use Rattle.outcomes.specs.declared.outcome.Outcome.{Outcome}
use Rattle.outcomes.specs.declared.outcome.Outcome.TheVariants as outcomes
use Rattle.query_core.specs.Conversations.{Converses, RepliedToTaken}
use Rattle.query_core.specs.declared.fault.AnswerFault.{AnswerFault}
use Rattle.scan_core.specs.Archives.{AreCapturesOfEach, AreIndexed, IsFaultOfArchive, IsFirstFault}
use Rattle.scan_core.specs.Archives.{nothing_told}
use Rattle.scan_core.specs.Scanning.{IsScanFault, Scanned}
use Rattle.scan_core.specs.declared.fault.ScanFault.{ScanFault}
use Rattle.tasks.specs.declared.reports.ArchiveReport.{ArchiveReport}
use Rattle.tasks.specs.declared.reports.ArchiveReport.TheVariants as reports
use Rattle.tasks.specs.Fetching.{WritesRecord}
use Rattle.tasks.specs.Indexing.{AddsArchive, AddsOne}
use Rattle.tasks.specs.Opening.{OpensFirst}
use Rattle.tasks.specs.Performing.{Openings, Performs, untold, without_bytes}
use Rattle.tasks.specs.Queries.{AnswersLines}
use Rattle.tasks.specs.Reports.{ReportsOnOne, WritesBelow, WritesReport}
use Rattle.tasks.specs.Scanning.{ScansArchives}
use Rattle.tasks.proofs.EachLemmas.{goes_over-map}

-- ---- what is done with one archive

module _ (left : Option (List ℕ)) where
  reports_untold : {A X : Type 0} (form : Form) (words : Wording A X) (answer : Result A IndexFault)
      (before after : Option (List ℕ))
      → Reports form words left answer before after → Reports form words None answer before after
  reports_untold form words answer before after r = grind arith

  fetched_untold : (limit offset : ℕ) (answer : Result ℕ IndexFault) (before after : Option (List ℕ))
      → Fetches limit offset left answer before after → Fetches limit offset None answer before after
  fetched_untold limit offset answer before after w = grind arith

  fetched_at_untold : (limit offset len : ℕ) (answer : Result ℕ IndexFault) (before after : Option (List ℕ))
      → FetchesAt limit offset len left answer before after → FetchesAt limit offset len None answer before after
  fetched_at_untold limit offset len answer before after w = grind arith

  member_untold : (limit : ℕ) (asked : Option ℕ) (offset : ℕ) (answer : Result ℕ IndexFault)
      (before after : Option (List ℕ)) → FetchesMember limit asked offset left answer before after
      → FetchesMember limit asked offset None answer before after
  member_untold limit asked offset answer before after w = grind arith

record_untold : (left : Option (List ℕ)) (packing : Packing) (len : Option ℕ) (offset : ℕ) (answer : Result ℕ IndexFault)
    (before after : Option (List ℕ))
    → FetchesIn packing len offset left answer before after → FetchesIn packing len offset None answer before after
record_untold left Plain None offset answer before after w = fetched_untold left _ offset answer before after w
record_untold left Plain (Some len) offset answer before after w =
    fetched_at_untold left _ offset len answer before after w
record_untold left Packed len offset answer before after (inl w) =
    inl (member_untold _ _ len offset answer before after w)
record_untold left Packed len offset answer before after (inr unread) = inr unread

module _ (archive : ToldArchive) where
  report_untold : (report : ArchiveReport) (outcome : Outcome) (before after : Option (List ℕ))
      → WritesReport report archive outcome before after
      → WritesReport report (without_bytes archive) outcome before after
  report_untold report outcome before after w = grind (arith, reports_untold)

  below_untold : (heading : List ℕ) (report : ArchiveReport) (outcome : Outcome) (before after : Option (List ℕ))
      → WritesBelow heading report archive outcome before after
      → WritesBelow heading report (without_bytes archive) outcome before after
  below_untold heading report outcome before after w = grind (arith, report_untold)

  added_untold : (name : List ℕ) (old new : Held) (outcome : Outcome)
      → AddsArchive name archive old new outcome → AddsArchive name (without_bytes archive) old new outcome
  added_untold name old new outcome w = grind arith

  written_untold : (len : Option ℕ) (offset : ℕ) (before after : Option (List ℕ)) (unchanged : Type 0)
      (outcome : Outcome) → WritesRecord len offset archive before after unchanged outcome
      → WritesRecord len offset (without_bytes archive) before after unchanged outcome
  written_untold len offset before after unchanged outcome w = record {
    answer = w.answer;
    outcome_is = w.outcome_is;
    fetches = record_untold archive.bytes archive.packing len offset w.answer before after w.fetches;
    one = w.one;
    unwritten = w.unwritten;
  }

-- ---- the archives of a scan

module _ (types : Kind → Bool) where
  accepted_untold : (names : List (List ℕ)) (inputs : List ToldArchive) (captures : List (List EntryValue))
      → AreCapturesOfEach types names inputs captures
      → AreCapturesOfEach types names (map without_bytes inputs) captures
  accepted_untold (name ∷ names) (i ∷ inputs) (c ∷ captures) accepted =
      ((accepted.0.0, tt), accepted_untold names inputs captures accepted.1)
  accepted_untold names inputs captures accepted = grind arith

  indexed_untold : (names : List (List ℕ)) (inputs : List ToldArchive) (captures : List (List EntryValue))
      → AreIndexed types names inputs captures → AreIndexed types names (map without_bytes inputs) captures
  indexed_untold names inputs captures indexed = grind (arith, accepted_untold)

  fault_untold : (earlier : List (List ℕ)) (name : List ℕ) (input : ToldArchive) (fault : IndexFault)
      → IsFaultOfArchive types earlier name input fault
      → IsFaultOfArchive types earlier name (without_bytes input) fault
  fault_untold earlier name input fault is = grind arith

  take_untold : (i : ℕ) (inputs : List ToldArchive)
      → take i (map without_bytes inputs) ≡ map without_bytes (take i inputs)
  take_untold (suc i) (input ∷ inputs) = grind (arith, take_untold i inputs)
  take_untold i inputs = grind arith

  at_untold : (i : ℕ) (inputs : List ToldArchive)
      → get_or (map without_bytes inputs) i nothing_told ≡ without_bytes (get_or inputs i nothing_told)
  at_untold zero (input ∷ inputs) = refl
  at_untold (suc i) (input ∷ inputs) = at_untold i inputs
  at_untold i [] = grind arith

  first_untold : (names : List (List ℕ)) (inputs : List ToldArchive) (i : ℕ) (fault : IndexFault)
      → IsFirstFault types names inputs i fault → IsFirstFault types names (map without_bytes inputs) i fault
  first_untold names inputs i fault first = record {
    inside = first.inside;
    captures = first.captures;
    before = rw (take_untold i inputs) (indexed_untold (take i names) (take i inputs) first.captures first.before);
    refused = rw (at_untold i inputs) (fault_untold (take i names) (get_or names i []) (get_or inputs i nothing_told)
        fault first.refused);
  }

  module _ (names : List (List ℕ)) (inputs : List ToldArchive) (sizes query : List ℕ) where
    scan_fault_untold : (fault : ScanFault) → IsScanFault types names inputs sizes query fault
        → IsScanFault types names (map without_bytes inputs) sizes query fault
    unfolding IsScanFault
    scan_fault_untold fault is = grind (arith, first_untold)

    scanned_untold : (answer : Result ℕ ScanFault) (before after : Option (List ℕ))
        → Scanned types names inputs sizes query answer before after
        → Scanned types names (map without_bytes inputs) sizes query answer before after
    scanned_untold answer before after s = grind (arith, indexed_untold)

    scans_untold : (before after : Option (List ℕ)) (outcome : Outcome)
        → ScansArchives types names inputs sizes query before after outcome
        → ScansArchives types names (map without_bytes inputs) sizes query before after outcome
    scans_untold before after outcome s = grind (arith, scanned_untold, scan_fault_untold)

-- ---- the lines of an input

module _ (limit : ℕ) (IsReply : List ℕ → List ℕ → Type 0) (before after : Option (List ℕ)) where
  conversed_untold : (input : Option (List ℕ)) (answer : Result ℕ AnswerFault)
      → Converses limit IsReply answer input before after → Converses limit IsReply answer None before after
  conversed_untold input answer c = grind arith

  taken_untold : (input left : Option (List ℕ)) → RepliedToTaken limit IsReply input left before after
      → RepliedToTaken limit IsReply None left before after
  taken_untold None left t = t
  taken_untold (Some input) left t = (map without_carriage_return t.0, t.2, t.5, t.6)

lines_untold : (told : List (Option (List ℕ))) (input before after : Option (List ℕ)) (unchanged : Type 0)
    (outcome : Outcome) → AnswersLines told input before after unchanged outcome
    → AnswersLines told None before after unchanged outcome
lines_untold told input before after unchanged outcome a = record {
  answer = a.answer;
  outcome_is = a.outcome_is;
  refused = a.refused;
  conversation = conversed_untold _ _ before after input a.answer a.conversation;
  taken = λ is. ((a.taken is).0, taken_untold _ _ before after input _ (a.taken is).1);
}

-- ---- the tasks

-- what was done where files were opened
opened_map : {U V A B : Type 0} → (A → B) → OpensFirst U V A → OpensFirst U V B
opened_map f (inl done) = inl (f done)
opened_map f (inr none) = inr none

module _ (files : Openings) where
  report_step : (report : ArchiveReport) (count : ℕ) (before : Option (List ℕ)) (name : List ℕ) (ended : Outcome)
      (after : Option (List ℕ))
      → ReportsOnOne files.TellsArchive files.ArchiveFailed report count before name ended after
      → ReportsOnOne (untold files).TellsArchive files.ArchiveFailed report count before name ended after
  report_step report count before name ended after = opened_map (λ w.
      (without_bytes w.0, (w.0, w.1, refl), below_untold w.0 _ report ended before after w.2))

  add_step : (input : Option (List ℕ)) (old : Held) (name : List ℕ) (ended : Outcome) (new : Held)
      → AddsOne files.TellsArchive files.ArchiveFailed input old name ended new
      → AddsOne (untold files).TellsArchive files.ArchiveFailed input old name ended new
  add_step input old name ended new = opened_map (λ w.
      (without_bytes w.0, (w.0, w.1, refl), added_untold w.0 _ old new ended w.2))

  all_untold : (names : List (List ℕ)) (told : List ToldArchive) → AllZip files.TellsArchive names told
      → AllZip (untold files).TellsArchive names (map without_bytes told)
  all_untold [] [] all = tt
  all_untold (name ∷ names) (t ∷ told) all = ((t, all.0, refl), all_untold names told all.1)
  all_untold names told all = grind arith

  module _ (before after : Option (List ℕ)) (unchanged : Type 0) (outcome : Outcome) where
    pub performs_untold : (task : Meaning) → Performs files before after unchanged outcome task
        → Performs (untold files) before after unchanged outcome task
    unfolding Performs
    performs_untold (ToList names) p =
        goes_over-map _ _ (λ s. s) (report_step reports.Listing _) outcome after names outcomes.Done before p
    performs_untold (ToVerify names) p =
        goes_over-map _ _ (λ s. s) (report_step reports.Verdicts _) outcome after names outcomes.Done before p
    performs_untold (ToIndex types input names) p =
        (p.0, p.1, goes_over-map _ _ (λ s. s) (add_step input) p.1 p.0 names _ _ p.2, p.3)
    performs_untold (ToServe names) p =
        (None, refl, opened_map (lines_untold _ p.0 before after unchanged outcome) p.2)
    performs_untold (ToGet len offset name) p = opened_map (λ w.
        (without_bytes w.0, (w.0, w.1, refl), written_untold w.0 len offset before after unchanged outcome w.2)) p
    performs_untold (ToScan types input sizes text names) (inl read) = inl (
      read.0,
      read.1,
      opened_map (λ w.
          (map without_bytes w.0, all_untold names w.0 w.1, scans_untold _ _ w.0 sizes text before after outcome w.2)) read.2,
    )
    performs_untold (ToScan types input sizes text names) (inr refused) = inr refused
    performs_untold task p = p
