-- However a task ends that ends at a fault, it has written a front of what one that is done writes.
use Rattle.std.proofs.Common.{arith, ◌≡◌, ◌⊎◌, ℕ, true, List, ◌++◌, Option, None, Some, Result, Ok, Err, append_assoc, map}
use Rattle.std.proofs.Common.{◌∙◌, ap, drop, refl, subst, sym, inl, inr, append-nil, []}
use Rattle.std.specs.Prelude.{IfErr}
use Rattle.std.specs.List.{AllZip}
use Rattle.std.specs.Io.KnownBytes.{Appends, Keeps}
use Rattle.cdxj_core.specs.declared.limit.TheConstants.{LINE_LIMIT}
use Rattle.cdxj_core.specs.{Indexes.IsIndex, Members.Member}
use Rattle.devices.proofs.DeviceLemmas.{grows_by, grows_not, grows_part}
use Rattle.devices.specs.Device.{Grows}
use Rattle.archives.specs.{Packing.Packed, Packing.Packing, Packing.Plain, State.ToldArchive}
use Rattle.capture_core.specs.Types.{includes}
use Rattle.command_line.specs.Commands.{Meaning, ToGet, ToMerge, ToPages, ToQuery, ToScan, ToServe}
use Rattle.warc_core.specs.declared.next.TheConstants.{HEAD_LIMIT}
use Rattle.index_core.specs.{FetchingIn.FetchesIn, FetchingIn.IsUnwrittenBy, OneText.HasFront, OneText.IsFailure}
use Rattle.index_core.specs.OneText.{FetchesAtFront, FetchesAtOneText, FetchesFront, FetchesMemberFront}
use Rattle.index_core.specs.OneText.{FetchesMemberOneText, FetchesOneText, IsOfArchive}
use Rattle.index_core.specs.OneRecord.{IsOneRecord, WritesOneRecord, WritesPart}
use Rattle.index_core.specs.declared.fault.IndexFault.{IndexFault}
use Rattle.merge_core.specs.{Collections.Known, Collections.collection, SourceLines.WritesLines}
use Rattle.query_core.specs.Answering.{WritesAnswer}
use Rattle.query_core.specs.{AnyReplies.IsTextReply, Conversations.Converses, Paging.WritesPages, WrittenPages.are_sizes}
use Rattle.query_core.specs.Fronts.{AnswerHasFront, MergeHasFront, PagesHaveFront, RepliesHaveFront}
use Rattle.query_core.specs.OneText.{AnswerIsOne, ConversationIsOne, MergeIsOne, PagesAreOne}
use Rattle.query_core.specs.Refusals.{Refuses, bad_sizes_or_too_many}
use Rattle.query_core.specs.declared.{fault.AnswerFault.AnswerFault, report.Report.Report}
use Rattle.query_text.specs.declared.query.TheConstants.{QUERY_LIMIT}
use Rattle.query_text.specs.Queries.{QueryValue}
use Rattle.scan_core.specs.Laws.{ScanHasFront, ScanIsOne}
use Rattle.scan_core.specs.Scanning.{IsBeforeWriting, Scanned}
use Rattle.scan_core.specs.declared.fault.ScanFault.{ScanFault}
use Rattle.outcomes.specs.Outcome.{answered_outcome, outcome_of}
use Rattle.outcomes.specs.declared.outcome.Outcome.{Outcome}
use Rattle.outcomes.specs.declared.outcome.Outcome.TheVariants as outcomes
use Rattle.tasks.proofs.OneTextLemmas.{begins_there, fetches_one, known_indexes, opened, same_query, told_one}
use Rattle.tasks.specs.Fetching.{WritesRecord}
use Rattle.tasks.specs.Indexing.{archive_name}
use Rattle.tasks.specs.Merging.{MergesIndexes}
use Rattle.tasks.specs.OneText.{AreKnown, IsNoConversation, IsOneArchive}
use Rattle.tasks.specs.OpeningLaws.{OpensAllFirst}
use Rattle.tasks.specs.Performing.{Openings, Performs}
use Rattle.tasks.specs.Queries.{AnswersLines, AnswersPages, AnswersQuery}
use Rattle.tasks.specs.Running.{IsDoneAndFlushed, RunsWords}
use Rattle.tasks.specs.Scanning.{ScansArchives, scan_outcome}

-- what was known of an output grew to a part, and that grows to the whole
abbrev GrowsTo : List ℕ → Option (List ℕ) → Option (List ℕ) → Type 0
GrowsTo before whole part = Grows (Some before) part × Grows part whole

has_front : (before : List ℕ) (whole part : Option (List ℕ)) → GrowsTo before whole part → HasFront before whole part
has_front before (Some w) (Some p) (a, b) = (a.text, b.text, grind (arith, append_assoc), grind arith)
has_front before whole part (a, b) = grind arith

same_part : (before : List ℕ) (whole part : Option (List ℕ)) → Grows (Some before) whole → whole ≡ part
    → GrowsTo before whole part
same_part before whole part grew e = rw (sym e) (grew, grows_not whole)

nothing : (before : List ℕ) (whole part : Option (List ℕ)) → Grows (Some before) whole → part ≡ Some before
    → GrowsTo before whole part
nothing before whole part grew e = rw e (grows_not (Some before), grew)

-- laws of what calls leave that fail
pub record CallsHaveFronts : Type 0 where
  pub merge : MergeIsOne
  pub merges : MergeHasFront
  pub answer : AnswerIsOne
  pub answers : AnswerHasFront
  pub page : PagesAreOne
  pub pages : PagesHaveFront
  pub reply : ConversationIsOne
  pub replies : RepliesHaveFront
  pub fetch : FetchesOneText
  pub fetches : FetchesFront
  pub fetch_at : FetchesAtOneText
  pub fetches_at : FetchesAtFront
  pub fetch_member : FetchesMemberOneText
  pub fetches_member : FetchesMemberFront
  pub scan : ScanIsOne
  pub scans : ScanHasFront

-- ---- queries, merges and pages of indexes

module _ (before : List ℕ) (whole part : Option (List ℕ)) where
  merge_grew : (lines : List Member) (one : Result ℕ AnswerFault) → outcomes.Done ≡ answered_outcome one
      → WritesLines (λ (n : ℕ). n) one (Some before) whole lines → Grows (Some before) whole
  merge_grew lines (Ok n) e p = grows_by (Some before) whole _ p.0
  merge_grew lines (Err fault) e p = absurd (cc)

  merge_leaves : MergeIsOne → MergeHasFront → (lines : List Member) (one other : Result ℕ AnswerFault)
      → outcomes.Done ≡ answered_outcome one → WritesLines (λ (n : ℕ). n) one (Some before) whole lines
      → WritesLines (λ (n : ℕ). n) other (Some before) part lines → GrowsTo before whole part
  merge_leaves law front lines (Ok n) (Ok m) e p q =
      same_part before whole part (grows_by (Some before) whole _ p.0) (law lines before whole part n m p q).0
  merge_leaves law front lines (Ok n) (Err fault) e p q =
      (grows_part (Some before) part _ q, front lines before part whole fault n q p)
  merge_leaves law front lines (Err fault) other e p q = absurd (cc)

  module _ (query : QueryValue) where
    answer_grew : (lines : List Member) (one : Result Report AnswerFault) → outcomes.Done ≡ answered_outcome one
        → WritesAnswer query lines one (Some before) whole → Grows (Some before) whole
    answer_grew lines (Ok n) e p = grind (arith, grows_by)
    answer_grew lines (Err fault) e p = absurd (cc)

    answer_leaves : AnswerIsOne → AnswerHasFront → (lines : List Member) (one other : Result Report AnswerFault)
        → outcomes.Done ≡ answered_outcome one → WritesAnswer query lines one (Some before) whole
        → WritesAnswer query lines other (Some before) part → GrowsTo before whole part
    answer_leaves law front lines (Ok n) (Ok m) e p q =
        same_part before whole part (answer_grew lines (Ok n) e p) (law query lines before whole part n m p q).0
    answer_leaves law front lines (Ok n) (Err fault) e p q =
        (grows_part (Some before) part _ q, front query lines before part whole fault n q p)
    answer_leaves law front lines (Err fault) other e p q = absurd (cc)

    module _ (sizes : List ℕ) where
      pages_grew : (lines : List Member) (one : Result ℕ AnswerFault) → outcomes.Done ≡ answered_outcome one
          → WritesPages query lines sizes one (Some before) whole → Grows (Some before) whole
      pages_grew lines (Ok n) e p = grows_by (Some before) whole _ p.text
      pages_grew lines (Err fault) e p = absurd (cc)

      -- pages that were written have good sizes
      sized : (count : ℕ) (one : Result ℕ AnswerFault) (unchanged : Type 0) → outcomes.Done ≡ answered_outcome one
          → Refuses (bad_sizes_or_too_many sizes count) one unchanged → are_sizes sizes ≡ true
      sized count (Ok n) unchanged e refused = grind arith
      sized count (Err fault) unchanged e refused = absurd (cc)

      pages_leave : PagesAreOne → PagesHaveFront → (lines : List Member) (one other : Result ℕ AnswerFault)
          → are_sizes sizes ≡ true → outcomes.Done ≡ answered_outcome one
          → WritesPages query lines sizes one (Some before) whole
          → WritesPages query lines sizes other (Some before) part → GrowsTo before whole part
      pages_leave law front lines (Ok n) (Ok m) good e p q =
          same_part before whole part (pages_grew lines (Ok n) e p) (law query lines sizes before whole part n m p q).0
      pages_leave law front lines (Ok n) (Err fault) good e p q =
          (grows_part (Some before) part _ (q good).2, front query lines sizes before part whole fault n good q p)
      pages_leave law front lines (Err fault) other good e p q = absurd (cc)

  module _ (told : List (Option (List ℕ))) (input : List ℕ) where
    replies_grew : (one : Result ℕ AnswerFault) → outcomes.Done ≡ answered_outcome one
        → Converses QUERY_LIMIT (IsTextReply told) one (Some input) (Some before) whole → Grows (Some before) whole
    replies_grew (Ok n) e p = grows_by (Some before) whole _ p.4
    replies_grew (Err fault) e p = absurd (cc)

    replies_leave : ConversationIsOne → RepliesHaveFront → (texts : List (List ℕ)) (indexes : List (List Member))
        → Known told texts → AllZip (IsIndex LINE_LIMIT) texts indexes → (one other : Result ℕ AnswerFault)
        → outcomes.Done ≡ answered_outcome one
        → Converses QUERY_LIMIT (IsTextReply told) one (Some input) (Some before) whole
        → Converses QUERY_LIMIT (IsTextReply told) other (Some input) (Some before) part → GrowsTo before whole part
    replies_leave law front texts indexes known are (Ok n) (Ok m) e p q =
        same_part before whole part (replies_grew (Ok n) e p)
        (law told input before whole part n m p q texts indexes known are).0
    replies_leave law front texts indexes known are (Ok n) (Err fault) e p q =
        (grows_part (Some before) part _ q.5, front told input before part whole fault n q p texts indexes known are)
    replies_leave law front texts indexes known are (Err fault) other e p q = absurd (cc)

-- ---- the record at an offset

-- the archive isn't the reason of a fault, or it is
failure_or : (fault : IndexFault) → IsFailure {A = ℕ} (Err fault) ⊎ IsOfArchive {A = ℕ} (Err fault)
failure_or fault = grind arith

fronts_grow : (before : List ℕ) (whole part : Option (List ℕ)) → HasFront before whole part → GrowsTo before whole part
fronts_grow before whole part (front, more, w, p) =
    (grows_by (Some before) part front (grind arith), grows_by part whole more (grind (arith, append_assoc)))

module _ (laws : CallsHaveFronts) (offset : ℕ) (archive before : List ℕ) (n : ℕ) (whole : Option (List ℕ)) where
  record_grew : (packing : Packing) (len : Option ℕ)
      → FetchesIn packing len offset (Some archive) (Ok n) (Some before) whole → Grows (Some before) whole
  record_grew packing len p =
      let text = (fetches_one laws.fetch laws.fetch_at laws.fetch_member packing len offset archive before n n whole whole
      p p).1 in grind arith

  module _ (part : Option (List ℕ)) where
    failed_leaves : (packing : Packing) (len : Option ℕ) (fault : IndexFault)
        → FetchesIn packing len offset (Some archive) (Ok n) (Some before) whole
        → FetchesIn packing len offset (Some archive) (Err fault) (Some before) part
        → (IsUnwrittenBy packing len offset fault → part ≡ Some before) → GrowsTo before whole part
    failed_leaves Plain None fault p q unwritten = elim (failure_or fault) [
      | inl failed ↦ fronts_grow before whole part
          (laws.fetches HEAD_LIMIT offset archive before n (Err fault) whole part failed p q)
      | inr of ↦ absurd (let e = (laws.fetch HEAD_LIMIT offset archive before (Ok n) (Err fault) whole part (λ f. f) of p
          q tt unwritten).0 in cc)
    ]
    failed_leaves Plain (Some len) fault p q unwritten = elim (failure_or fault) [
      | inl failed ↦ fronts_grow before whole part
          (laws.fetches_at HEAD_LIMIT offset len archive before n (Err fault) whole part failed p q)
      | inr of ↦ absurd (let e = (laws.fetch_at HEAD_LIMIT offset len archive before (Ok n) (Err fault) whole part (λ f. f)
          of p q tt unwritten).0 in cc)
    ]
    failed_leaves Packed len fault (inl p) (inl q) unwritten = elim (failure_or fault) [
      | inl failed ↦ fronts_grow before whole part
          (laws.fetches_member HEAD_LIMIT offset len (drop offset archive) before n (Err fault) whole part failed p q)
      | inr of ↦ absurd (let e = (laws.fetch_member HEAD_LIMIT offset len (drop offset archive) before (Ok n) (Err fault)
          whole part (λ f. f) of p q).0 in cc)
    ]
    failed_leaves Packed len fault (inl p) (inr q) unwritten =
        nothing before whole part (record_grew Packed len (inl p)) q.1
    failed_leaves Packed len fault (inr p) q unwritten = absurd (let e = p.0 in cc)

    record_leaves : (packing : Packing) (len : Option ℕ) (other : Result ℕ IndexFault)
        → FetchesIn packing len offset (Some archive) (Ok n) (Some before) whole
        → FetchesIn packing len offset (Some archive) other (Some before) part
        → IfErr other (λ fault. IsUnwrittenBy packing len offset fault → part ≡ Some before) → GrowsTo before whole part
    record_leaves packing len (Ok m) p q unwritten = same_part before whole part (record_grew packing len p)
        (fetches_one laws.fetch laws.fetch_at laws.fetch_member packing len offset archive before n m whole part p q).0
    record_leaves packing len (Err fault) p q unwritten = failed_leaves packing len fault p q unwritten

-- ---- one record, over any bytes

module _ (before : List ℕ) (after : Option (List ℕ)) where
  record_whole : (answer : Result ℕ IndexFault) → outcomes.Done ≡ outcome_of answer
      → WritesOneRecord HEAD_LIMIT answer (Some before) after
      → (text : List ℕ) × IsOneRecord HEAD_LIMIT text × Appends (Some before) after text
  record_whole (Ok n) e (text, one, size, wrote) = (text, one, wrote)
  record_whole (Err fault) e w = absurd (cc)

  record_part : (answer : Result ℕ IndexFault) (outcome : Outcome) → outcome ≡ outcome_of answer
      → WritesOneRecord HEAD_LIMIT answer (Some before) after → (outcome ≡ outcomes.Done → ⊥)
      → WritesPart HEAD_LIMIT (Some before) after
  record_part (Ok n) outcome e w other = absurd (other e)
  record_part (Err fault) outcome e w other = w

  module _ (files : Openings) (len : Option ℕ) (offset : ℕ) (name : List ℕ) (unchanged : Type 0) where
    pub got_whole : Performs files (Some before) after unchanged outcomes.Done (ToGet len offset name)
        → (text : List ℕ) × IsOneRecord HEAD_LIMIT text × Appends (Some before) after text
    unfolding Performs
    got_whole (inl (told, tells, w)) = record_whole w.answer w.outcome_is w.one
    got_whole (inr unopened) = absurd unopened.0

    pub got_part : (unchanged → after ≡ Some before) → (outcome : Outcome)
        → Performs files (Some before) after unchanged outcome (ToGet len offset name) → (outcome ≡ outcomes.Done → ⊥)
        → WritesPart HEAD_LIMIT (Some before) after
    unfolding Performs
    got_part keeps outcome (inl (told, tells, w)) other = record_part w.answer outcome w.outcome_is w.one other
    got_part keeps outcome (inr w) other = inl (keeps w.1)

-- ---- the pages of archives

module _ (before : List ℕ) (whole part : Option (List ℕ)) where
  -- a fault comes before anything is written, or it doesn't
  before_or : (fault : ScanFault) → IsBeforeWriting fault ⊎ (IsBeforeWriting fault → ⊥)
  before_or fault = grind arith

  module _ (types : _) (names archives : List (List ℕ)) (told : List ToldArchive) (sizes text : List ℕ) where
    scan_grew : (one : Result ℕ ScanFault) → outcomes.Done ≡ scan_outcome one
        → (IfErr one (λ fault. IsBeforeWriting fault → ⊥) → Scanned types names told sizes text one (Some before) whole)
        → Grows (Some before) whole
    scan_grew (Ok n) e p = let wrote = (p tt).wrote in grows_by (Some before) whole _ wrote.text
    scan_grew (Err fault) e p = absurd (grind arith)

    scan_leaves : ScanIsOne → ScanHasFront → Known (map (λ input. input.bytes) told) archives
        → (one other : Result ℕ ScanFault) → outcomes.Done ≡ scan_outcome one
        → (IfErr one (λ fault. IsBeforeWriting fault → ⊥) → Scanned types names told sizes text one (Some before) whole)
        → (IfErr other (λ fault. IsBeforeWriting fault → ⊥) → Scanned types names told sizes text other (Some before) part)
        → IfErr other (λ fault. IsBeforeWriting fault → part ≡ Some before) → GrowsTo before whole part
    scan_leaves law front known (Ok n) (Ok m) e p q unwritten = same_part before whole part (scan_grew (Ok n) e p)
        (law types names archives told sizes text before whole part n m known (p tt) (q tt)).0
    scan_leaves law front known (Ok n) (Err fault) e p q unwritten = elim (before_or fault) [
      | inl first ↦ nothing before whole part (scan_grew (Ok n) e p) (unwritten first)
      | inr later ↦
          let wrote = (q later).wrote in (
            grows_part (Some before) part _ wrote.2,
            front types names archives told sizes text before part whole fault n known (q later) (p tt),
          )
    ]
    scan_leaves law front known (Err fault) other e p q unwritten = absurd (grind arith)

-- ---- any task

module _ (laws : CallsHaveFronts) (files : Openings) (before : List ℕ) (whole part : Option (List ℕ)) (outcome : Outcome)
    (unchanged unchanged' : Type 0) (keeps : unchanged' → part ≡ Some before) where
  -- what was done by a task, or nothing where files are opened, or where the query is read
  or_nothing : {A B : Type 0} → Grows (Some before) whole → (A → GrowsTo before whole part) → A ⊎ (B × unchanged')
      → GrowsTo before whole part
  or_nothing grew leaves (inl a) = leaves a
  or_nothing grew leaves (inr w) = nothing before whole part grew (keeps w.1)

  -- the same of the record at an offset
  unwritten : (packing : Packing) (len : Option ℕ) (offset : ℕ) (answer : Result ℕ IndexFault)
      → IfErr answer (λ fault. IsUnwrittenBy packing len offset fault → unchanged')
      → IfErr answer (λ fault. IsUnwrittenBy packing len offset fault → part ≡ Some before)
  unwritten packing len offset (Ok n) w = tt
  unwritten packing len offset (Err fault) w = λ met. keeps (w met)

  leaves : (task : Meaning) → AreKnown files task → OpensAllFirst task
      → Performs files (Some before) whole unchanged outcomes.Done task
      → Performs files (Some before) part unchanged' outcome task → GrowsTo before whole part
  unfolding Performs
  leaves (ToMerge names) known ends a b =
      let is = known_indexes files.index_of names known.indexes in let first = opened a in
      or_nothing (merge_grew before whole part first.merged.lines first.answer first.outcome_is first.merged.holds)
      (λ (other : MergesIndexes (map files.index_of names) (Some before) part unchanged' outcome).
      merge_leaves before whole part laws.merge laws.merges (collection is.1) first.answer other.answer first.outcome_is
      (rw (first.merged.whole is.0 is.1 is.2 is.3) at first.merged.holds)
      (rw (other.merged.whole is.0 is.1 is.2 is.3) at other.merged.holds)) b
  leaves (ToQuery text names) known ends a b =
      let is = known_indexes files.index_of names known.indexes in let asked = opened a in let first = opened asked.2 in
      let query = asked.0 in
      let grew = answer_grew before whole part query first.page.lines first.answer first.outcome_is first.page.holds in
      or_nothing grew (λ done. or_nothing grew
      (λ (other : AnswersQuery query (map files.index_of names) (Some before) part unchanged' outcome).
      answer_leaves before whole part query laws.answer laws.answers (collection is.1) first.answer other.answer
      first.outcome_is (rw (first.page.whole is.0 is.1 is.2 is.3) at first.page.holds)
      (rw (other.page.whole is.0 is.1 is.2 is.3) at other.page.holds))
      (rw (same_query text query done.0 asked.1 done.1) at done.2)) b
  leaves (ToPages sizes text names) known ends a b =
      let is = known_indexes files.index_of names known.indexes in let asked = opened a in let first = opened asked.2 in
      let query = asked.0 in
      let grew = pages_grew before whole part query sizes first.pages.lines first.answer first.outcome_is
      first.pages.holds in
      let good = sized before whole part query sizes _ first.answer _ first.outcome_is first.refused in
      or_nothing grew (λ done. or_nothing grew
      (λ (other : AnswersPages query sizes (map files.index_of names) (Some before) part unchanged' outcome).
      pages_leave before whole part query sizes laws.page laws.pages (collection is.1) first.answer other.answer good
      first.outcome_is (rw (first.pages.whole is.0 is.1 is.2 is.3) at first.pages.holds)
      (rw (other.pages.whole is.0 is.1 is.2 is.3) at other.pages.holds))
      (rw (same_query text query done.0 asked.1 done.1) at done.2)) b
  leaves (ToServe names) known ends (input, t, a) (input', t', b) =
      let is = known_indexes files.index_of names known.indexes in
      let told = map files.index_of names in let lines = known.input.bytes in
      let first : AnswersLines told (Some lines) (Some before) whole unchanged outcomes.Done
      = rw (known.input.is input t) at (opened a) in
      or_nothing (replies_grew before whole part told lines first.answer first.outcome_is first.conversation)
      (λ (other : AnswersLines told (Some lines) (Some before) part unchanged' outcome).
      replies_leave before whole part told lines laws.reply laws.replies is.0 is.1 is.2 is.3 first.answer other.answer
      first.outcome_is first.conversation other.conversation) (rw (known.input.is input' t') at b)
  leaves (ToGet len offset name) known ends a b =
      let archive = known.archives.0 in let first = opened a in
      got archive first.0 first.1 first.2 first.2.answer first.2.outcome_is
      (rw (archive.is first.0 first.1) at first.2.fetches)
    where
      got : (archive : IsOneArchive (files.TellsArchive name)) (told : ToldArchive) → files.TellsArchive name told
          → WritesRecord len offset told (Some before) whole unchanged outcomes.Done → (one : Result ℕ IndexFault)
          → outcomes.Done ≡ outcome_of one
          → FetchesIn archive.packing len offset (Some archive.bytes) one (Some before) whole → GrowsTo before whole part
      got archive told tells first (Ok n) e p =
          or_nothing (record_grew laws offset archive.bytes before n whole archive.packing len p)
          (λ other. record_leaves laws offset archive.bytes before n whole part archive.packing len other.2.answer p
          (rw (archive.is other.0 other.1) at other.2.fetches)
          (unwritten archive.packing len offset other.2.answer (rw (archive.is other.0 other.1) at other.2.unwritten))) b
      got archive told tells first (Err fault) e p = absurd (cc)
  leaves (ToScan types input sizes text names) known ends a b =
      let asked = opened a in let first = opened asked.2 in
      let one = told_one files.TellsArchive names first.0 first.0 known.archives first.1 first.1 in
      let named = map (archive_name input) names in let scans = first.2 in
      let grew = scan_grew before whole part (includes types) named one.1 first.0 sizes text scans.answer
      scans.outcome_is scans.scanned in
      or_nothing grew (λ done. or_nothing grew (λ found.
      let same = told_one files.TellsArchive names first.0 found.0 known.archives first.1 found.1 in
      let other = subst (λ told. ScansArchives (includes types) named told sizes text (Some before) part outcome)
      (sym same.0) found.2 in
      scan_leaves before whole part (includes types) named same.1 first.0 sizes text laws.scan laws.scans same.2
      scans.answer other.answer scans.outcome_is scans.scanned other.scanned other.unwritten) done.2) b
  leaves task known ends a b = absurd ends

  pub front_left : (task : Meaning) → AreKnown files task → OpensAllFirst task
      → Performs files (Some before) whole unchanged outcomes.Done task
      → Performs files (Some before) part unchanged' outcome task → HasFront before whole part
  front_left task known ends a b = has_front before whole part (leaves task known ends a b)

-- ---- the exit status

kept_front : (before : List ℕ) (whole part whole' part' : Option (List ℕ)) → HasFront before whole part → Keeps whole whole'
    → Keeps part part' → HasFront before whole' part'
kept_front before whole part (Some w) (Some p) (front, more, e, f) a b = grind arith
kept_front before whole part whole' part' (front, more, e, f) a b = grind arith

-- what was there before is a front too
first_front : (before : List ℕ) (whole part : Option (List ℕ)) → HasFront before whole part
    → HasFront before whole (Some before)
first_front before whole part (front, more, e, f) = ([], front ++ more, e, grind (arith, append-nil))

module _ {O : Type 0} (written flushed : O → Option (List ℕ)) (failures : O → ℕ) (laws : CallsHaveFronts) (files : Openings)
    (task : Meaning) (before : List ℕ) (old this that : O) (known : AreKnown files task) (ends : OpensAllFirst task)
    (alone : IsNoConversation task) (is : written old ≡ Some before)
    (done : IsDoneAndFlushed written flushed failures files task old this) where
  begun_done : written done.begun ≡ Some before
  begun_done = ap written (begins_there written flushed failures task old done.begun alone done.begins) ∙ is

  pub exit_front : (status : ℕ) → RunsWords written flushed failures files (Ok task) old that status
      → HasFront before (written this) (written that)
  exit_front status (inl run) =
      let begun : written run.begun ≡ Some before
      = ap written (begins_there written flushed failures task old run.begun alone run.begins) ∙ is in
      let left = front_left laws files before (written done.ended) (written run.ended) run.outcome _ _
      (λ e. ap written e ∙ begun) task known ends (rw begun_done at done.performs) (rw begun at run.performs) in
      kept_front before (written done.ended) (written run.ended) (written this) (written that) left done.kept run.kept
  exit_front status (inr lacks) =
      let performs = rw begun_done at done.performs in
      let left = front_left laws files before (written done.ended) (written done.ended) outcomes.Done _ _
      (λ e. ap written e ∙ begun_done) task known ends performs performs in
      let front = first_front before (written done.ended) (written done.ended) left in
      rw (lacks.1, is) (kept_front before (written done.ended) (Some before) (written this) (Some before) front done.kept refl)
