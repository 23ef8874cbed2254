-- A task that is done has written one text, by the files.
use Rattle.std.proofs.Common.{arith, ◌≡◌, ◌⊎◌, ℕ, true, false, List, [], ◌∷◌, ◌++◌, Option, None, Some, Result, Ok, Err}
use Rattle.std.proofs.Common.{◌∙◌, ap, append-nil, drop, length, map, refl, subst, sym, inl, inr}
use Rattle.std.proofs.lemmas.List.{length-map}
use Rattle.std.specs.Prelude.{⊤, IfErr, MatchResult, flat_map}
use Rattle.std.specs.List.{AllByRecursion, AllZip}
use Rattle.std.specs.Io.KnownBytes.{Appends}
use Rattle.cdxj_core.specs.declared.limit.TheConstants.{LINE_LIMIT}
use Rattle.cdxj_core.specs.{Indexes.IsIndex, Members.Member, Members.line_entry}
use Rattle.archives.specs.{Contents.contents, Packing.Packed, Packing.Packing, Packing.Plain, Packing.form_of, State.ToldArchive}
use Rattle.command_line.specs.Commands.{Meaning, ToCheck, ToGet, ToIndex, ToList, ToMerge, ToPages, ToQuery, ToScan}
use Rattle.command_line.specs.Commands.{ToServe, ToVerify}
use Rattle.warc_core.specs.declared.next.TheConstants.{HEAD_LIMIT}
use Rattle.index_core.specs.{Indexing.Held, Indexing.index_text, Listing.Lists, Listing.listing, Verifying.Verifies, Verifying.verification}
use Rattle.index_core.specs.{OneText.IsReport, OneText.AddsOneList, OneText.FetchesOneText, OneText.FetchesAtOneText, OneText.FetchesMemberOneText}
use Rattle.index_core.specs.{Report.Reports, Report.Wording, Report.report_text, FetchingIn.FetchesIn}
use Rattle.capture_core.specs.{CaptureAnswer.usual_limits, Types.includes}
use Rattle.index_core.specs.Adding.{Adds}
use Rattle.index_core.specs.declared.{fault.IndexFault.IndexFault, verified.Verified.Verified}
use Rattle.merge_core.specs.Collections.{Known, collection}
use Rattle.merge_core.specs.Written.{lines_text}
use Rattle.query_core.specs.OneText.{AnswerIsOne, ConversationIsOne, MergeIsOne, PagesAreOne}
use Rattle.query_core.specs.declared.fault.AnswerFault.{AnswerFault}
use Rattle.query_core.specs.Checking.{IsChecked}
use Rattle.query_core.specs.{AnyReplies.IsTextReply, Conversations.Converses, Paging.WritesPages, Paging.pages_text}
use Rattle.query_core.specs.QueryPages.{answer_text, query_page}
use Rattle.query_text.specs.declared.query.TheConstants.{QUERY_LIMIT}
use Rattle.query_text.specs.Queries.{QueryValue, query_of}
use Rattle.scan_core.specs.Laws.{ScanIsOne}
use Rattle.scan_core.specs.Scanning.{IsBeforeWriting, Scanned}
use Rattle.scan_core.specs.declared.fault.ScanFault.{ScanFault}
use Rattle.outcomes.specs.Outcome.{ZeroIsDone, answered_outcome, ends_command, exit_status_of, outcome_of, verification_outcome, worse_of}
use Rattle.outcomes.specs.declared.outcome.Outcome.{Outcome}
use Rattle.outcomes.specs.declared.outcome.Outcome.TheVariants as outcomes
use Rattle.tasks.specs.declared.reports.ArchiveReport.{ArchiveReport}
use Rattle.tasks.specs.declared.reports.ArchiveReport.TheVariants as reports
use Rattle.tasks.specs.Checks.{ChecksOne, WritesCount, checked_line}
use Rattle.tasks.specs.Each.{GoesOver}
use Rattle.tasks.specs.Fetching.{WritesRecord}
use Rattle.tasks.specs.Indexing.{AddsOne, IndexesArchives, archive_name, nothing_of}
use Rattle.tasks.specs.Merging.{MergesIndexes}
use Rattle.tasks.specs.OneText.{AreKnown, IsNoConversation, IsOneArchive, IsToldIndex}
use Rattle.tasks.specs.Running.{Begins, IsDoneAndFlushed}
use Rattle.tasks.specs.Performing.{Openings, Performs}
use Rattle.tasks.specs.Queries.{AnswersLines, AnswersPages, AnswersQuery}
use Rattle.tasks.specs.Reports.{ReportsOn, ReportsOnOne, WritesReport, heading_among}
use Rattle.tasks.specs.Scanning.{ScansArchives, scan_outcome}

-- ---- one file after another

status_done : exit_status_of outcomes.Done ≡ 0
unfolding exit_status_of
status_done = refl

done_goes_on : ends_command outcomes.Done ≡ false
unfolding ends_command
done_goes_on = refl

module _ (zero : ZeroIsDone) where
  worse_done : (a b : Outcome) → worse_of a b ≡ outcomes.Done → (a ≡ outcomes.Done) × (b ≡ outcomes.Done)
  worse_done a b e = grind (arith, status_done, zero a true, zero b true)

  module _ {S : Type 0} (Step : S → List ℕ → Outcome → S → Type 0) where
    -- a command that is done in the end was done so far
    done_so_far : (reached : Outcome) (state : S) (names : List (List ℕ)) (last : S)
        → GoesOver Step reached state names outcomes.Done last → reached ≡ outcomes.Done
    done_so_far reached state [] last w = sym w.0
    done_so_far reached state (name ∷ names) last w =
        grind (arith, done_goes_on, worse_done reached w.0, done_so_far (worse_of reached w.0) w.1 names last)

    -- and its first step was
    first_done : (reached : Outcome) (state : S) (name : List ℕ) (names : List (List ℕ)) (last : S)
        → GoesOver Step reached state (name ∷ names) outcomes.Done last
        → (next : S) × Step state name outcomes.Done next × GoesOver Step outcomes.Done next names outcomes.Done last
    first_done reached state name names last w =
        grind (arith, done_goes_on, worse_done reached w.0, done_so_far (worse_of reached w.0) w.1 names last)

    -- over names of which this is known, steps that are done lead to one state from each of this kind, which is of it too
    module _ (Named : List ℕ → Type 0) (Good : S → Type 0) (one : (state : S) (name : List ℕ) (this that : S)
        → Named name → Good state → Step state name outcomes.Done this → Step state name outcomes.Done that
        → (this ≡ that) × Good this) where
      goes_one : (names : List (List ℕ)) (here there : Outcome) (state this that : S) → AllByRecursion Named names
          → Good state → GoesOver Step here state names outcomes.Done this
          → GoesOver Step there state names outcomes.Done that → (this ≡ that) × Good this
      goes_one [] here there state this that named good a b = (a.1 ∙ sym b.1, subst Good (sym a.1) good)
      goes_one (name ∷ names) here there state this that named good a b =
          let first = first_done here state name names this a in
          let other = first_done there state name names that b in
          let same = one state name first.0 other.0 named.0 good first.1 other.1 in
          goes_one names outcomes.Done outcomes.Done first.0 this that named.1 same.1 first.2 (rw (← same.0) at other.2)

-- ---- what is known of an output

abbrev IsKnown : Option (List ℕ) → Type 0
IsKnown before = (bytes : List ℕ) × (before ≡ Some bytes)

abbrev AreOne : Option (List ℕ) → Option (List ℕ) → Type 0
AreOne this that = (this ≡ that) × IsKnown this

are_one : (before text : List ℕ) (this that : Option (List ℕ)) → Appends (Some before) this text → this ≡ that
    → AreOne this that
are_one before text this that a e = (e, (before ++ text, grind arith))

-- ---- reports on archives

report_one : {A X : Type 0} (words : Wording A X) → IsReport words → (packing : Packing) (archive : List ℕ) (answer : A)
    (before : List ℕ) (after : Option (List ℕ))
    → Reports (form_of packing) words (Some archive) (Ok answer) (Some before) after
    → after ≡ Some (before ++ report_text words (contents (form_of packing) 0 archive))
report_one words law packing archive answer before after w =
    let wrote = ((law HEAD_LIMIT packing archive (Ok answer) (Some before) after w).0 (λ f. f)).1 in grind arith

module _ (lists : IsReport listing) (verifies : IsReport verification) (packing : Packing) (archive : List ℕ) where
  -- the text of a report
  abbrev report_of : ArchiveReport → List ℕ
  report_of reports.Listing = report_text listing (contents (form_of packing) 0 archive)
  report_of reports.Verdicts = report_text verification (contents (form_of packing) 0 archive)

  module _ (before : List ℕ) (after : Option (List ℕ)) where
    listed : (answer : Result ℕ IndexFault) → outcomes.Done ≡ outcome_of answer
        → Lists (form_of packing) (Some archive) answer (Some before) after
        → after ≡ Some (before ++ report_of reports.Listing)
    listed (Ok n) e w = report_one listing lists packing archive n before after w
    listed (Err fault) e w = absurd (cc)

    verified : (answer : Result Verified IndexFault) → outcomes.Done ≡ verification_outcome answer
        → Verifies (form_of packing) (Some archive) answer (Some before) after
        → after ≡ Some (before ++ report_of reports.Verdicts)
    verified (Ok n) e w = report_one verification verifies packing archive n before after w
    verified (Err fault) e w = absurd (cc)

    reported : (report : ArchiveReport)
        → WritesReport report (record { packing = packing; bytes = Some archive }) outcomes.Done (Some before) after
        → after ≡ Some (before ++ report_of report)
    reported reports.Listing w = listed w.0 w.1 w.2
    reported reports.Verdicts w = verified w.0 w.1 w.2

module _ (lists : IsReport listing) (verifies : IsReport verification) (Tells : List ℕ → ToldArchive → Type 0)
    (Failed : List ℕ → Type 0) where
  reports_on_one : (report : ArchiveReport) (count : ℕ) (before : List ℕ) (name : List ℕ) (after : Option (List ℕ))
      → (archive : IsOneArchive (Tells name)) → ReportsOnOne Tells Failed report count (Some before) name outcomes.Done after
      → after ≡ Some ((before ++ heading_among count name) ++ report_of lists verifies archive.packing archive.bytes report)
  reports_on_one report count before name after archive w =
      grind (arith, archive.is, reported lists verifies archive.packing archive.bytes)

  report_step : (report : ArchiveReport) (count : ℕ) (before : Option (List ℕ)) (name : List ℕ)
      (this that : Option (List ℕ)) → IsOneArchive (Tells name) → IsKnown before
      → ReportsOnOne Tells Failed report count before name outcomes.Done this
      → ReportsOnOne Tells Failed report count before name outcomes.Done that → (this ≡ that) × IsKnown this
  report_step report count before name this that archive (bytes, e) a b =
      let first = reports_on_one report count bytes name this archive (rw e at a) in
      let other = reports_on_one report count bytes name that archive (rw e at b) in
      (first ∙ sym other, (_, first))

-- ---- the index of archives

-- what was added by a call that is done
added_by : (types : _) (packing : Packing) (name archive : List ℕ) (old new : Held) (answer : Result ℕ IndexFault)
    → outcomes.Done ≡ outcome_of answer
    → Adds types usual_limits (form_of packing) name (Some archive) old new answer
    → (n : ℕ) × Adds types usual_limits (form_of packing) name (Some archive) old new (Ok n)
added_by types packing name archive old new (Ok n) e w = (n, w)
added_by types packing name archive old new (Err fault) e w = absurd (cc)

adds_one : AddsOneList → (Tells : List ℕ → ToldArchive → Type 0) (Failed : List ℕ → Type 0)
    → (input : Option (List ℕ)) (state : Held) (name : List ℕ) (this that : Held) → IsOneArchive (Tells name)
    → AddsOne Tells Failed input state name outcomes.Done this
    → AddsOne Tells Failed input state name outcomes.Done that → this ≡ that
adds_one law Tells Failed input state name this that archive (inl (told, t, w)) (inl (other, o, v)) =
    let types = includes state.types in let named = archive_name input name in
    let first = added_by types archive.packing named archive.bytes state this w.answer w.outcome_is
    (rw (archive.is told t) at w.adds) in
    let second = added_by types archive.packing named archive.bytes state that v.answer v.outcome_is
    (rw (archive.is other o) at v.adds) in
    (law types usual_limits HEAD_LIMIT archive.packing named archive.bytes state this that (Ok first.0) (Ok second.0)
    (λ f. f) (λ f. f) first.1 second.1).1
adds_one law Tells Failed input state name this that archive (inl w) (inr unopened) = absurd unopened.0
adds_one law Tells Failed input state name this that archive (inr unopened) b = absurd unopened.0

-- what was held in the end, and that its index was written
index_of_done : (Tells : List ℕ → ToldArchive → Type 0) (Failed : List ℕ → Type 0) (types : _) (input : Option (List ℕ))
    (names : List (List ℕ)) (before after : Option (List ℕ)) (unchanged : Type 0)
    → IndexesArchives Tells Failed types input names before after unchanged outcomes.Done
    → (held : Held) × GoesOver (AddsOne Tells Failed input) outcomes.Done (nothing_of types) names outcomes.Done held
    × Appends before after (index_text held.captures)
index_of_done Tells Failed types input names before after unchanged w = grind (arith, done_goes_on)

-- ---- indexes that are checked

-- so many lines were read of an index
run_length : (these : List (List ℕ)) (members : List Member) → map (line_entry LINE_LIMIT) these ≡ map Some members
    → length members ≡ length these
run_length these members e = grind (arith, length-map)

checked_one : (text : List ℕ) (size size' number number' : ℕ) → IsChecked (Some text) size (Ok number)
    → IsChecked (Some text) size' (Ok number') → number ≡ number'
checked_one text size size' number number' (a, counted) (b, counted') =
    let first = a.known text refl in let other = b.known text refl in
    let size = run_length a.before a.members a.run.entries in
    let size' = run_length b.before b.members b.run.entries in
    let same : a.before ≡ b.before = grind (arith, append-nil) in grind arith

-- the line of an index whose check is done
counted : (name : List ℕ) (before after : Option (List ℕ)) (text : List ℕ) (size : ℕ) (answer : Result ℕ AnswerFault)
    → IsChecked (Some text) size answer
    → MatchResult answer (λ count. WritesCount name count outcomes.Done before after)
    (λ fault. (outcomes.Done ≡ outcomes.Answer fault) × (after ≡ before))
    → (n : ℕ) × IsChecked (Some text) size (Ok n) × Appends before after (checked_line name n)
counted name before after text size (Ok n) checked (inl w) = (n, checked, w.1)
counted name before after text size (Ok n) checked (inr w) = absurd (let e = w.0 in cc)
counted name before after text size (Err fault) checked w = absurd (let e = w.0 in cc)

module _ (index_of : List ℕ → Option (List ℕ)) (Failed : List ℕ → Type 0) where
  check_step : (before : Option (List ℕ)) (name : List ℕ) (this that : Option (List ℕ)) → IsToldIndex (index_of name)
      → IsKnown before → ChecksOne index_of Failed before name outcomes.Done this
      → ChecksOne index_of Failed before name outcomes.Done that → (this ≡ that) × IsKnown this
  check_step before name this that told (bytes, e) (inl w) (inl v) =
      let first = counted name before this told.text w.size w.answer (rw told.is at w.checked) w.written in
      let second = counted name before that told.text v.size v.answer (rw told.is at v.checked) v.written in
      let same = checked_one told.text w.size v.size first.0 second.0 first.1 second.1 in
      let wrote = subst (λ (b : Option (List ℕ)). Appends b this (checked_line name first.0)) e first.2 in
      let other = subst (λ (b : Option (List ℕ)). Appends b that (checked_line name second.0)) e second.2 in
      are_one bytes (checked_line name first.0) this that wrote (grind (arith, same))
  check_step before name this that told known (inl w) (inr unopened) = absurd unopened.0
  check_step before name this that told known (inr unopened) b = absurd unopened.0

-- ---- queries, merges and pages of indexes

-- the bytes of indexes, and their lines
pub known_indexes : (index_of : List ℕ → Option (List ℕ)) (names : List (List ℕ))
    → AllByRecursion (λ name. IsToldIndex (index_of name)) names
    → (texts : List (List ℕ)) × (indexes : List (List Member)) × Known (map index_of names) texts
    × AllZip (IsIndex LINE_LIMIT) texts indexes
known_indexes index_of [] told = ([], [], tt, tt)
known_indexes index_of (name ∷ names) told = let rest = known_indexes index_of names told.1 in
    (told.0.text ∷ rest.0, told.0.members ∷ rest.1, (told.0.is, rest.2), (told.0.is_index, rest.3))

module _ (told : List (Option (List ℕ))) (texts : List (List ℕ)) (indexes : List (List Member)) (known : Known told texts)
    (are : AllZip (IsIndex LINE_LIMIT) texts indexes) (before : List ℕ) (this that : Option (List ℕ))
    (unchanged unchanged' : Type 0) where
  merges_one : MergeIsOne → MergesIndexes told (Some before) this unchanged outcomes.Done
      → MergesIndexes told (Some before) that unchanged' outcomes.Done → AreOne this that
  merges_one law a b =
      let first = a.merged.whole texts indexes known are in let other = b.merged.whole texts indexes known are in
      are_one before (lines_text a.merged.lines) this that (grind arith)
      (grind (arith, law (collection indexes) before this that))

  answers_one : AnswerIsOne → (q : QueryValue) → AnswersQuery q told (Some before) this unchanged outcomes.Done
      → AnswersQuery q told (Some before) that unchanged' outcomes.Done → AreOne this that
  answers_one law q a b =
      let first = a.page.whole texts indexes known are in let other = b.page.whole texts indexes known are in
      are_one before (answer_text q (query_page q a.page.lines)) this that (grind arith)
      (grind (arith, law q (collection indexes) before this that))

  pages_known : (q : QueryValue) (sizes : List ℕ) (lines : List Member) (answer : Result ℕ AnswerFault)
      → outcomes.Done ≡ answered_outcome answer → WritesPages q lines sizes answer (Some before) this → IsKnown this
  pages_known q sizes lines (Ok n) e w = (before ++ pages_text q w.pages, let wrote = w.text in grind arith)
  pages_known q sizes lines (Err fault) e w = absurd (cc)

  pages_one : PagesAreOne → (q : QueryValue) (sizes : List ℕ)
      → AnswersPages q sizes told (Some before) this unchanged outcomes.Done
      → AnswersPages q sizes told (Some before) that unchanged' outcomes.Done → AreOne this that
  pages_one law q sizes a b =
      let first = a.pages.whole texts indexes known are in let other = b.pages.whole texts indexes known are in (
        grind (arith, law q (collection indexes) sizes before this that),
        pages_known q sizes a.pages.lines a.answer a.outcome_is a.pages.holds,
      )

  converses_one : ConversationIsOne → (input : List ℕ) → AnswersLines told (Some input) (Some before) this unchanged outcomes.Done
      → AnswersLines told (Some input) (Some before) that unchanged' outcomes.Done → AreOne this that
  converses_one law input a b =
      both a.answer b.answer a.outcome_is b.outcome_is a.conversation b.conversation
    where
      both : (one other : Result ℕ AnswerFault) → outcomes.Done ≡ answered_outcome one
          → outcomes.Done ≡ answered_outcome other
          → Converses QUERY_LIMIT (IsTextReply told) one (Some input) (Some before) this
          → Converses QUERY_LIMIT (IsTextReply told) other (Some input) (Some before) that → AreOne this that
      both (Ok n) (Ok m) e f p q =
          are_one before (flat_map (λ text. text) p.2) this that p.4 (law told input before this that n m p q texts indexes known are).0
      both one other e f p q = absurd (grind arith)

-- ---- the record at an offset

module _ (record_law : FetchesOneText) (length_law : FetchesAtOneText) (member_law : FetchesMemberOneText) where
  pub fetches_one : (packing : Packing) (len : Option ℕ) (offset : ℕ) (archive before : List ℕ) (n m : ℕ)
      (this that : Option (List ℕ)) → FetchesIn packing len offset (Some archive) (Ok n) (Some before) this
      → FetchesIn packing len offset (Some archive) (Ok m) (Some before) that → AreOne this that
  fetches_one Plain None offset archive before n m this that a b = are_one before a.0 this that (grind arith)
      ((record_law HEAD_LIMIT offset archive before (Ok n) (Ok m) this that (λ f. f) (λ f. f) a b tt tt).1 tt)
  fetches_one Plain (Some len) offset archive before n m this that a b = (
    (length_law HEAD_LIMIT offset len archive before (Ok n) (Ok m) this that (λ f. f) (λ f. f) a b tt tt).1 tt,
    grind arith,
  )
  fetches_one Packed len offset archive before n m this that (inl a) (inl b) =
      are_one before a.0 this that a.2 (member_law HEAD_LIMIT offset len (drop offset archive) before (Ok n) (Ok m) this that
      (λ f. f) (λ f. f) a b).1
  fetches_one Packed len offset archive before n m this that (inl a) (inr b) = absurd (let e = b.0 in cc)
  fetches_one Packed len offset archive before n m this that (inr a) b = absurd (let e = a.0 in cc)

  record_one : (Tells : ToldArchive → Type 0) (len : Option ℕ) (offset : ℕ) (told other : ToldArchive) (before : List ℕ)
      (this that : Option (List ℕ)) (unchanged unchanged' : Type 0) → IsOneArchive Tells → Tells told → Tells other
      → WritesRecord len offset told (Some before) this unchanged outcomes.Done
      → WritesRecord len offset other (Some before) that unchanged' outcomes.Done → AreOne this that
  record_one Tells len offset told other before this that unchanged unchanged' archive t o a b =
      both a.answer b.answer a.outcome_is b.outcome_is (rw (archive.is told t) at a.fetches)
      (rw (archive.is other o) at b.fetches)
    where
      both : (one other : Result ℕ IndexFault) → outcomes.Done ≡ outcome_of one → outcomes.Done ≡ outcome_of other
          → FetchesIn archive.packing len offset (Some archive.bytes) one (Some before) this
          → FetchesIn archive.packing len offset (Some archive.bytes) other (Some before) that → AreOne this that
      both (Ok n) (Ok m) e f p q = fetches_one archive.packing len offset archive.bytes before n m this that p q
      both one other e f p q = absurd (grind arith)

-- ---- the pages of archives

pub told_one : (Tells : List ℕ → ToldArchive → Type 0) (names : List (List ℕ)) (told other : List ToldArchive)
    → AllByRecursion (λ name. IsOneArchive (Tells name)) names → AllZip Tells names told → AllZip Tells names other
    → (told ≡ other) × (archives : List (List ℕ)) × Known (map (λ input. input.bytes) told) archives
told_one Tells [] [] [] known a b = (refl, [], tt)
told_one Tells (name ∷ names) (t ∷ told) (o ∷ other) known a b =
    let rest = told_one Tells names told other known.1 a.1 b.1 in
    let archive = known.0 in
    (grind (arith, archive.is), archive.bytes ∷ rest.1, (grind (arith, archive.is), rest.2))
told_one Tells names told other known a b = grind arith

scans_one : ScanIsOne → (types : _) (named archives : List (List ℕ)) (told : List ToldArchive) (sizes text before : List ℕ)
    (this that : Option (List ℕ)) → Known (map (λ input. input.bytes) told) archives
    → ScansArchives types named told sizes text (Some before) this outcomes.Done
    → ScansArchives types named told sizes text (Some before) that outcomes.Done → AreOne this that
scans_one law types named archives told sizes text before this that known a b =
    both a.answer b.answer a.outcome_is b.outcome_is a.scanned b.scanned
  where
    both : (one other : Result ℕ ScanFault) → outcomes.Done ≡ scan_outcome one → outcomes.Done ≡ scan_outcome other
        → (IfErr one (λ fault. IsBeforeWriting fault → ⊥) → Scanned types named told sizes text one (Some before) this)
        → (IfErr other (λ fault. IsBeforeWriting fault → ⊥) → Scanned types named told sizes text other (Some before) that)
        → AreOne this that
    both (Ok n) (Ok m) e f p q = let first = p tt in let second = q tt in let wrote = first.wrote in
        are_one before (pages_text first.query wrote.pages) this that wrote.text
        (law types named archives told sizes text before this that n m known first second).0
    both one other e f p q = absurd (grind arith)

-- ---- any task

-- laws of what the calls write
pub record CallsAreOne : Type 0 where
  pub zero : ZeroIsDone
  pub lists : IsReport listing
  pub verifies : IsReport verification
  pub adds : AddsOneList
  pub merges : MergeIsOne
  pub answers : AnswerIsOne
  pub pages : PagesAreOne
  pub replies : ConversationIsOne
  pub fetches : FetchesOneText
  pub fetches_at : FetchesAtOneText
  pub fetches_member : FetchesMemberOneText
  pub scans : ScanIsOne

-- what was done by a task that didn't end where files are opened, or where its query is read
pub opened : {A B : Type 0} → A ⊎ (⊥ × B) → A
opened (inl a) = a
opened (inr (never, b)) = absurd never

pub same_query : (text : List ℕ) (q r : QueryValue) → query_of QUERY_LIMIT text ≡ Ok q → query_of QUERY_LIMIT text ≡ Ok r
    → r ≡ q
same_query text q r e f = let same = sym f ∙ e in grind arith

module _ (laws : CallsAreOne) (files : Openings) (before : List ℕ) (this that : Option (List ℕ))
    (unchanged unchanged' : Type 0) where
  reports_one : (report : ArchiveReport) (names : List (List ℕ))
      → AllByRecursion (λ name. IsOneArchive (files.TellsArchive name)) names
      → ReportsOn files.TellsArchive files.ArchiveFailed report names (Some before) this outcomes.Done
      → ReportsOn files.TellsArchive files.ArchiveFailed report names (Some before) that outcomes.Done → AreOne this that
  reports_one report names known a b = goes_one laws.zero
      (ReportsOnOne files.TellsArchive files.ArchiveFailed report (length names))
      (λ name. IsOneArchive (files.TellsArchive name)) IsKnown
      (report_step laws.lists laws.verifies files.TellsArchive files.ArchiveFailed report (length names))
      names outcomes.Done outcomes.Done (Some before) this that known (before, refl) a b

  pub done_one : (task : Meaning) → AreKnown files task
      → Performs files (Some before) this unchanged outcomes.Done task
      → Performs files (Some before) that unchanged' outcomes.Done task → AreOne this that
  unfolding Performs
  done_one (ToList names) known a b = reports_one reports.Listing names known.archives a b
  done_one (ToVerify names) known a b = reports_one reports.Verdicts names known.archives a b
  done_one (ToIndex types input names) known a b =
      let first = index_of_done files.TellsArchive files.ArchiveFailed types input names (Some before) this unchanged a in
      let other = index_of_done files.TellsArchive files.ArchiveFailed types input names (Some before) that unchanged' b in
      let held = goes_one laws.zero (AddsOne files.TellsArchive files.ArchiveFailed input)
      (λ name. IsOneArchive (files.TellsArchive name)) (λ held. ⊤) (λ state name x y archive good p q.
      (adds_one laws.adds files.TellsArchive files.ArchiveFailed input state name x y archive p q, tt)) names
      outcomes.Done outcomes.Done (nothing_of types) first.0 other.0 known.archives tt first.1 other.1 in
      are_one before (index_text first.0.captures) this that first.2 (grind (arith, held.0))
  done_one (ToMerge names) known a b =
      let is = known_indexes files.index_of names known.indexes in
      merges_one (map files.index_of names) is.0 is.1 is.2 is.3 before this that unchanged unchanged' laws.merges
      (opened a) (opened b)
  done_one (ToCheck names) known a b = goes_one laws.zero (ChecksOne files.index_of files.IndexFailed)
      (λ name. IsToldIndex (files.index_of name)) IsKnown (check_step files.index_of files.IndexFailed) names outcomes.Done
      outcomes.Done (Some before) this that known.indexes (before, refl) a b
  done_one (ToQuery text names) known a b =
      let is = known_indexes files.index_of names known.indexes in
      let first = opened a in let other = opened b in
      let same = same_query text first.0 other.0 first.1 other.1 in
      answers_one (map files.index_of names) is.0 is.1 is.2 is.3 before this that unchanged unchanged' laws.answers first.0
      (opened first.2) (subst (λ q. AnswersQuery q (map files.index_of names) (Some before) that unchanged' outcomes.Done)
      same (opened other.2))
  done_one (ToPages sizes text names) known a b =
      let is = known_indexes files.index_of names known.indexes in
      let first = opened a in let other = opened b in
      let same = same_query text first.0 other.0 first.1 other.1 in
      pages_one (map files.index_of names) is.0 is.1 is.2 is.3 before this that unchanged unchanged' laws.pages first.0 sizes
      (opened first.2) (subst (λ q. AnswersPages q sizes (map files.index_of names) (Some before) that unchanged'
      outcomes.Done) same (opened other.2))
  done_one (ToServe names) known (input, t, a) (input', t', b) =
      let is = known_indexes files.index_of names known.indexes in
      converses_one (map files.index_of names) is.0 is.1 is.2 is.3 before this that unchanged unchanged' laws.replies
      known.input.bytes
      (subst (λ i. AnswersLines (map files.index_of names) i (Some before) this unchanged outcomes.Done)
      (known.input.is input t) (opened a))
      (subst (λ i. AnswersLines (map files.index_of names) i (Some before) that unchanged' outcomes.Done)
      (known.input.is input' t') (opened b))
  done_one (ToGet len offset name) known a b =
      let first = opened a in let other = opened b in
      record_one laws.fetches laws.fetches_at laws.fetches_member (files.TellsArchive name) len offset first.0 other.0 before
      this that unchanged unchanged' known.archives.0 first.1 other.1 first.2 other.2
  done_one (ToScan types input sizes text names) known a b =
      let first = opened (opened a).2 in let other = opened (opened b).2 in
      let one = told_one files.TellsArchive names first.0 other.0 known.archives first.1 other.1 in
      let named = map (archive_name input) names in
      scans_one laws.scans (includes types) named one.1 first.0 sizes text before this that one.2 first.2
      (subst (λ told. ScansArchives (includes types) named told sizes text (Some before) that outcomes.Done)
      (sym one.0) other.2)

-- ---- the exit status

module _ {O : Type 0} (written flushed : O → Option (List ℕ)) (failures : O → ℕ) where
  -- but for a conversation, a task begins at the output as it is
  pub begins_there : (task : Meaning) (old begun : O) → IsNoConversation task
      → Begins written flushed failures task old begun → begun ≡ old
  begins_there task old begun alone b = grind arith

  pub exit_one : CallsAreOne → (files : Openings) (task : Meaning) (before : List ℕ) (old this that : O)
      → AreKnown files task → IsNoConversation task → written old ≡ Some before
      → IsDoneAndFlushed written flushed failures files task old this
      → IsDoneAndFlushed written flushed failures files task old that → written this ≡ written that
  exit_one laws files task before old this that known alone e a b =
      let first : written a.begun ≡ Some before = ap written (begins_there task old a.begun alone a.begins) ∙ e in
      let other : written b.begun ≡ Some before = ap written (begins_there task old b.begun alone b.begins) ∙ e in
      let same = done_one laws files before (written a.ended) (written b.ended) _ _ task known
      (rw first at a.performs) (rw other at b.performs) in
      let kept = a.kept in let keeps = b.kept in grind arith
