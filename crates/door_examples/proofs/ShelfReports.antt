-- What the tasks on archives write of an archive in memory.
use native.Mathlib.Omega.{arith}
use Rattle.std.proofs.Common.{◌≡◌, ◌∙◌, ℕ, List, [], ◌∷◌, ◌++◌, Option, Some, None, Result, Ok, Err, MatchBool, codes, flat_map, refl, sym, ap, subst, inl, inr, append-nil}
use Rattle.std.specs.Fmt.{digits}
use Rattle.std.specs.Io.KnownBytes.{Appends}
use Rattle.json.specs.Print.{escape_byte}
use Rattle.warc_head.specs.Fields.{value_of}
use Rattle.warc_core.specs.Laws.{OneReading}
use Rattle.index_core.specs.Packing.{Plain}
use Rattle.index_core.specs.State.{ToldArchive}
use Rattle.capture_core.specs.Types.{includes, usual_types}
use Rattle.index_core.specs.FetchingIn.{FetchesIn}
use Rattle.index_core.specs.Indexing.{Held, index_text}
use Rattle.index_core.specs.Form.{ConsistsOf, Stored, plain, plain_record}
use Rattle.index_core.specs.Laws.{OneIndexed, OneStands, PlainIsWhole, records_of}
use Rattle.index_core.specs.Limits.{HEAD_LIMIT}
use Rattle.index_core.specs.declared.fault.IndexFault.{IndexFault}
use Rattle.index_core.specs.Listing.{listing, record_line}
use Rattle.index_core.specs.Report.{ReadTo, Wording, lines_of}
use Rattle.index_core.specs.Verifying.{verdict_line, verification}
use Rattle.command_line.specs.Commands.{ToGet, ToIndex, ToList, ToVerify}
use Rattle.outcomes.specs.declared.outcome.Outcome.{Outcome}
use Rattle.outcomes.specs.declared.outcome.Outcome.TheVariants as outcomes
use Rattle.tasks.specs.declared.reports.ArchiveReport.{ArchiveReport}
use Rattle.tasks.specs.declared.reports.ArchiveReport.TheVariants as reports
use Rattle.tasks.specs.Fetching.{WritesRecord}
use Rattle.tasks.specs.Indexing.{AddsArchive, AddsOne, WritesIndex, nothing_of}
use Rattle.outcomes.specs.Outcome.{ends_command, outcome_of}
use Rattle.tasks.specs.Performing.{Performs}
use Rattle.tasks.specs.Opening.{WithTold}
use Rattle.tasks.specs.Reports.{ReportsOn, ReportsOnOne, WritesBelow, WritesReport, heading_among}
use Rattle.door_examples.specs.Archives.{a_archive, a_entry, a_view}
use Rattle.door_examples.specs.Shelf.{shelf, archive_name, told_archive}
use Rattle.door_examples.specs.Texts.{a_line}
use Rattle.door_examples.proofs.ReadArchives.{pages_are_accepted, a_stands}
use Rattle.door_examples.proofs.ShelfOutcomes.{one_done, added_done}

-- the record of the archive
abbrev a_record : Stored
a_record = plain_record a_view a_archive

abbrev pub HasOneReading : Type 0
HasOneReading = (limit : ℕ) (archive : List ℕ) → OneReading limit archive

list_text : lines_of listing (a_record ∷ []) ≡ codes "0 201 resource\n"
unfolding digits record_line
list_text = refl

verify_text : lines_of verification (a_record ∷ []) ≡ codes "0 absent\n"
unfolding digits value_of verdict_line
verify_text = refl

line_text : index_text (a_entry ∷ []) ≡ a_line
unfolding digits escape_byte
line_text = refl

records_are : HasOneReading → PlainIsWhole → (records : List Stored) → ConsistsOf (plain HEAD_LIMIT) a_archive records
    → records ≡ a_record ∷ []
records_are one whole records are =
    let w = whole HEAD_LIMIT a_archive records are in
    w.2 ∙ ap (records_of a_archive)
    ((one HEAD_LIMIT a_archive).one_list w.0 (a_view ∷ []) w.1 pages_are_accepted.records)

-- what was done with the archive, as it is told
over_told : (Done : ToldArchive → Type 0) → WithTold (λ told. told ≡ told_archive) Done → Done told_archive
over_told Done (told, is, done) = subst Done is done

-- ---- reports

-- all that a report says of the archive
said_all : {A X : Type 0} (words : Wording A X) → HasOneReading → PlainIsWhole → (items : List X) (end : ℕ)
    → ReadTo (plain HEAD_LIMIT) words (Some a_archive) items end
    (λ rest. (plain HEAD_LIMIT).next end rest ≡ Ok (None, []))
    → flat_map words.line items ≡ lines_of words (a_record ∷ [])
said_all words one whole items end read =
    let k = read.known in
    let says = k.1 in
    ap (flat_map words.line) says.2 ∙ ap (lines_of words) (records_are one whole says.0 (record {
      end = end;
      rest = k.0;
      walks = says.1;
      ended = k.2;
    }))

listed : HasOneReading → PlainIsWhole → (start after : List ℕ) → WritesReport reports.Listing told_archive outcomes.Done (Some start)
    (Some after) → after ≡ start ++ codes "0 201 resource\n"
listed one whole start after (Ok n, is, (items, end, read, tally, wrote)) =
    wrote ∙ ap (λ t. start ++ t) (said_all listing one whole items end read ∙ list_text)
listed one whole start after (Err f, is, lists) = grind arith

verified : HasOneReading → PlainIsWhole → (start after : List ℕ) → WritesReport reports.Verdicts told_archive outcomes.Done
    (Some start) (Some after) → after ≡ start ++ codes "0 absent\n"
verified one whole start after (Ok v, is, (items, end, read, tally, wrote)) =
    wrote ∙ ap (λ t. start ++ t) (said_all verification one whole items end read ∙ verify_text)
verified one whole start after (Err f, is, verifies) = grind arith

module _ (failed : Type 0) (report : ArchiveReport) (text before after : List ℕ)
    (whole : (start : List ℕ) → WritesReport report told_archive outcomes.Done (Some start) (Some after)
    → after ≡ start ++ text) where
  below : (headed : Option (List ℕ)) → Appends (Some before) headed []
      → WritesReport report told_archive outcomes.Done headed (Some after) → after ≡ before ++ text
  below None top written = grind arith
  below (Some start) top written = whole start written ∙ ap (λ s. s ++ text) (top ∙ append-nil before)

  on_one : ReportsOnOne (shelf failed).TellsArchive (shelf failed).ArchiveFailed report 1 (Some before) archive_name outcomes.Done (Some after)
      → after ≡ before ++ text
  on_one (inl written) = beneath (over_told _ written)
    where
      beneath : WritesBelow (heading_among 1 archive_name) report told_archive outcomes.Done (Some before) (Some after)
          → after ≡ before ++ text
      beneath (inl w) = below w.0 w.1 w.2
      beneath (inr failed) = grind arith
  on_one (inr unopened) = grind arith

  reported : ReportsOn (shelf failed).TellsArchive (shelf failed).ArchiveFailed report (archive_name ∷ []) (Some before) (Some after)
      outcomes.Done → after ≡ before ++ text
  reported (ended, next, step, rest) =
      let d = one_done ended next (Some after) rest in
      on_one (subst (λ s. ReportsOnOne (shelf failed).TellsArchive (shelf failed).ArchiveFailed report 1 (Some before) archive_name
      outcomes.Done s) (sym d.1)
      (subst (λ o. ReportsOnOne (shelf failed).TellsArchive (shelf failed).ArchiveFailed report 1 (Some before) archive_name o next) d.0 step))

-- ---- the record at an offset

same_text : (this that : List ℕ) → ◌≡◌ {A = Result (List ℕ) IndexFault} (Ok this) (Ok that) → this ≡ that
same_text this that e = grind arith

fetched : OneStands → (before after : List ℕ) (answer : Result ℕ IndexFault) → outcomes.Done ≡ outcome_of answer
    → FetchesIn Plain None 0 (Some a_archive) answer (Some before) (Some after) → after ≡ before ++ a_archive
fetched one before after (Ok n) is (text, count, wrote, stands) = wrote
    ∙ ap (λ t. before ++ t) (same_text text a_archive (one HEAD_LIMIT 0 a_archive (Ok text) (Ok a_archive) stands a_stands))
fetched one before after (Err f) is fetches = grind arith

module _ (failed : Type 0) (before after : List ℕ) (unchanged : Type 0) where
  pub lists : HasOneReading → PlainIsWhole
      → Performs (shelf failed) (Some before) (Some after) unchanged outcomes.Done (ToList (archive_name ∷ []))
      → after ≡ before ++ codes "0 201 resource\n"
  unfolding Performs
  lists one whole p = reported failed reports.Listing _ before after (λ start. listed one whole start after) p

  pub verifies : HasOneReading → PlainIsWhole
      → Performs (shelf failed) (Some before) (Some after) unchanged outcomes.Done (ToVerify (archive_name ∷ []))
      → after ≡ before ++ codes "0 absent\n"
  unfolding Performs
  verifies one whole p = reported failed reports.Verdicts _ before after (λ start. verified one whole start after) p

  pub gets : OneStands → Performs (shelf failed) (Some before) (Some after) unchanged outcomes.Done (ToGet None 0 archive_name)
      → after ≡ before ++ a_archive
  unfolding Performs
  gets one (inl written) =
      let w = over_told (λ told. WritesRecord None 0 told (Some before) (Some after) unchanged outcomes.Done) written in
      fetched one before after w.answer w.outcome_is w.fetches
  gets one (inr unopened) = grind arith

-- ---- the index

added : (failed : Type 0) → OneIndexed → (held : Held)
    → AddsOne (shelf failed).TellsArchive (shelf failed).ArchiveFailed None (nothing_of usual_types) archive_name outcomes.Done held
    → held.captures ≡ a_entry ∷ []
added failed one held (inl told) = go a.answer a.outcome_is a.adds
  where
    a : AddsArchive archive_name told_archive (nothing_of usual_types) held outcomes.Done
    a = over_told (λ told. AddsArchive archive_name told (nothing_of usual_types) held outcomes.Done) told

    go : (answer : Result ℕ IndexFault) → outcomes.Done ≡ outcome_of answer
        → Rattle.index_core.specs.Adding.Adds (includes usual_types) Rattle.capture_core.specs.CaptureAnswer.usual_limits
        (plain HEAD_LIMIT) archive_name (Some a_archive) (nothing_of usual_types) held answer → held.captures ≡ a_entry ∷ []
    go (Ok n) is adds = grind (arith, one _ _ HEAD_LIMIT Plain _ _ _ _ adds.2.2 pages_are_accepted.first)
    go (Err f) is adds = grind arith
added failed one held (inr unopened) = grind arith

indexed : (before after : List ℕ) (held : Held) (outcome : Outcome) → held.captures ≡ a_entry ∷ []
    → WritesIndex held outcome (Some before) (Some after) outcomes.Done → after ≡ before ++ a_line
indexed before after held outcome are (Ok n, is, fault, text) = text ∙ ap (λ es. before ++ index_text es) are
    ∙ ap (λ t. before ++ t) line_text
indexed before after held outcome are (Err f, is, fault, text) = grind arith

pub indexes : (failed : Type 0) → OneIndexed → (before after : List ℕ) (unchanged : Type 0)
    → Performs (shelf failed) (Some before) (Some after) unchanged outcomes.Done (ToIndex usual_types None (archive_name ∷ []))
    → after ≡ before ++ a_line
unfolding Performs
indexes failed one before after unchanged (held, reached, (ended, next, step, rest), write) =
    let w = added_done reached unchanged held (Some before) (Some after) write in
    let d = one_done ended next held (subst (λ r. MatchBool (ends_command ended) ((r ≡ ended) × (held ≡ next))
    ((r ≡ Rattle.outcomes.specs.Outcome.worse_of outcomes.Done ended) × (held ≡ next))) w.0 rest) in
    indexed before after held reached (added failed one held (subst (λ s. AddsOne (shelf failed).TellsArchive (shelf failed).ArchiveFailed
    None (nothing_of usual_types) archive_name outcomes.Done s) (sym d.1)
    (subst (λ o. AddsOne (shelf failed).TellsArchive (shelf failed).ArchiveFailed None (nothing_of usual_types) archive_name o next) d.0 step))) w.1
