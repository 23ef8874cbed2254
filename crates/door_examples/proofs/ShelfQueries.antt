-- What the tasks on indexes write of an index in memory, and a scan of an archive in memory.
use native.Mathlib.Omega.{arith}
use lib.Utf8.{encode}
use Rattle.std.proofs.Common.{◌≡◌, ◌∙◌, ℕ, List, [], ◌∷◌, ◌++◌, Some, None, Result, Ok, Err, MatchResult, IfErr, codes, refl, sym, ap, append-nil, drop, subst, inl, inr}
use Rattle.std.specs.Fmt.{digits}
use Rattle.std.specs.List.{AllZip}
use Rattle.std.specs.Str.{is_utf8, chars}
use Rattle.std.specs.Str.Lossy.{utf8_lossy, utf8_valid_len}
use Rattle.json.specs.Print.{escape_byte}
use Rattle.percent_encoding.specs.Percent.{percent_decode}
use Rattle.cdxj_places.specs.TextLines.{lines}
use Rattle.cdxj_core.specs.declared.limit.TheConstants.{LINE_LIMIT}
use Rattle.cdxj_core.specs.Fields.{field_named}
use Rattle.cdxj_core.specs.Indexes.{IsIndex, IsRun}
use Rattle.cdxj_core.specs.Members.{Member, entry_member}
use Rattle.merge_core.specs.Collections.{collection}
use Rattle.merge_core.specs.SourceLines.{HoldsOfLines, WritesLines}
use Rattle.merge_core.specs.Written.{lines_text}
use Rattle.query_text.specs.declared.fault.QueryFault.{QueryFault}
use Rattle.query_text.specs.declared.query.TheConstants.{QUERY_LIMIT}
use Rattle.query_text.specs.Queries.{QueryValue, query_of}
use Rattle.query_core.specs.QueryPages.{answer_text, query_page}
use Rattle.query_core.specs.WrittenPages.{WrotePages}
use Rattle.query_core.specs.declared.fault.AnswerFault.{AnswerFault}
use Rattle.query_core.specs.declared.report.Report.{Report}
use Rattle.query_core.specs.Answering.{WritesAnswer}
use Rattle.query_core.specs.Checking.{IsChecked}
use Rattle.devices.specs.LineCuts.{input_lines}
use Rattle.query_core.specs.AnyReplies.{IsTextReply}
use Rattle.query_core.specs.Conversations.{Converses}
use Rattle.query_core.specs.OneText.{PagesAreOne, RepliesAreOne}
use Rattle.query_core.specs.Paging.{WritesPages}
use Rattle.query_core.specs.Replies.{replies, reply_of}
use Rattle.scan_core.specs.declared.fault.ScanFault.{ScanFault}
use Rattle.scan_core.specs.Laws.{ScanIsOne}
use Rattle.scan_core.specs.Scanning.{IsBeforeWriting, Scanned}
use Rattle.index_core.specs.State.{ToldArchive}
use Rattle.capture_core.specs.Types.{includes, usual_types}
use Rattle.command_line.specs.Commands.{ToCheck, ToMerge, ToPages, ToQuery, ToScan, ToServe}
use Rattle.outcomes.specs.declared.outcome.Outcome.TheVariants as outcomes
use Rattle.tasks.specs.Checks.{ChecksOne, WritesCount, checked_line}
use Rattle.tasks.specs.Performing.{Performs}
use Rattle.outcomes.specs.Outcome.{answered_outcome}
use Rattle.tasks.specs.Queries.{AnswersPages, AnswersQuery}
use Rattle.tasks.specs.Scanning.{scan_outcome}
use Rattle.door_examples.specs.Archives.{a_archive, a_entry}
use Rattle.door_examples.specs.Scans.{plain_of}
use Rattle.door_examples.specs.Shelf.{shelf, archive_name, index_name, query_line, told_archive}
use Rattle.door_examples.specs.Texts.{a_line, orgs, orgs_text}
use Rattle.door_examples.proofs.ReadTexts.{line_is_index, query_is_read}
use Rattle.door_examples.proofs.ScannedArchives.{one_is_scanned}
use Rattle.door_examples.proofs.ShelfOutcomes.{one_done}

abbrev pub HasOneList : Type 0
HasOneList = (limit : ℕ) → (text : List ℕ) → (these those : List Member) → IsIndex limit text these
    → IsIndex limit text those → these ≡ those

-- the line of the index
abbrev member : Member
member = entry_member a_entry

-- the one list of lines
abbrev members : List (List Member)
members = (member ∷ []) ∷ []

check_text : checked_line index_name 1 ≡ codes "a.cdxj 1\n"
unfolding digits
check_text = refl

-- what holds of lines of the index holds of its own
of_index : {Holds : List Member → Type 0} → HoldsOfLines (Some a_line ∷ []) Holds → Holds (collection members)
of_index {Holds = Holds} h = subst Holds (h.whole (a_line ∷ []) members (refl, tt) (line_is_index.read, tt)) h.holds

merge_text : lines_text (collection ((member ∷ []) ∷ (member ∷ []) ∷ [])) ≡ a_line
unfolding digits escape_byte
merge_text = refl

query_text : answer_text orgs (query_page orgs (collection members)) ≡ codes "org,a)/ 0\n"
unfolding digits
query_text = refl

serve_text : replies QUERY_LIMIT (reply_of QUERY_LIMIT (collection members)) query_line ≡ codes "org,a)/\n.\n"
unfolding digits utf8_lossy utf8_valid_len is_utf8 chars encode percent_decode field_named
serve_text = refl

same_query : (this that : QueryValue) → ◌≡◌ {A = Result QueryValue QueryFault} (Ok this) (Ok that) → this ≡ that
same_query this that e = grind arith

same_bytes : (this that : List ℕ) → Some this ≡ Some that → this ≡ that
same_bytes this that e = grind arith

orgs_is : (q : QueryValue) → query_of QUERY_LIMIT orgs_text ≡ Ok q → q ≡ orgs
orgs_is q meaning = same_query q orgs (sym meaning ∙ query_is_read.meaning)

module _ (before after : List ℕ) where
  page_written : WrotePages orgs (collection members) (1 ∷ []) (Some before) (Some (before ++ codes "org,a)/ 0\n")) 1
  unfolding digits
  page_written = record {
    pages = record { members = member ∷ []; next = None } ∷ [];
    chain = (refl, refl);
    joined = refl;
    rises = (tt, tt);
    full = refl;
    keys = tt;
    empty = λ e. grind arith;
    text = refl;
    count = refl;
  }

  answered : (answer : Result Report AnswerFault) → outcomes.Done ≡ answered_outcome answer
      → WritesAnswer orgs (collection members) answer (Some before) (Some after) → after ≡ before ++ codes "org,a)/ 0\n"
  answered (Ok report) is page = page.text ∙ ap (λ t. before ++ t) query_text
  answered (Err f) is page = grind arith

  paged : PagesAreOne → (answer : Result ℕ AnswerFault) → outcomes.Done ≡ answered_outcome answer
      → WritesPages orgs (collection members) (1 ∷ []) answer (Some before) (Some after)
      → after ≡ before ++ codes "org,a)/ 0\n"
  paged one (Ok n) is pages =
      same_bytes _ _ (one orgs (collection members) (1 ∷ []) before (Some after) (Some _) n 1 pages page_written).0
  paged one (Err f) is pages = grind arith

  merged : (answer : Result ℕ AnswerFault) → outcomes.Done ≡ answered_outcome answer
      → HoldsOfLines (Some a_line ∷ Some a_line ∷ []) (WritesLines (λ n. n) answer (Some before) (Some after))
      → after ≡ before ++ a_line
  merged (Ok n) is merge =
      let whole = merge.whole (a_line ∷ a_line ∷ []) ((member ∷ []) ∷ (member ∷ []) ∷ []) (refl, (refl, tt))
      (line_is_index.read, (line_is_index.read, tt)) in
      merge.holds.0 ∙ ap (λ lines. before ++ lines_text lines) whole ∙ ap (λ t. before ++ t) merge_text
  merged (Err f) is merge = grind arith

  replied : RepliesAreOne → (answer : Result ℕ AnswerFault) → outcomes.Done ≡ answered_outcome answer
      → Converses QUERY_LIMIT (IsTextReply (Some a_line ∷ [])) answer (Some query_line) (Some before) (Some after)
      → after ≡ before ++ codes "org,a)/\n.\n"
  replied one (Ok n) is (short, count, texts, each, wrote) = wrote ∙ ap (λ t. before ++ t)
      (one (Some a_line ∷ []) (input_lines query_line) texts each (a_line ∷ []) members (refl, tt) (line_is_index.read, tt) ∙ serve_text)
  replied one (Err f) is wrote = grind arith

  abbrev WroteScan : List ToldArchive → Result ℕ ScanFault → Type 0
  WroteScan told answer = IfErr answer (λ fault. IsBeforeWriting fault → ⊥)
      → Scanned (includes usual_types) (archive_name ∷ []) told (1 ∷ []) orgs_text answer (Some before) (Some after)

  scanned : ScanIsOne → (answer : Result ℕ ScanFault) → outcomes.Done ≡ scan_outcome answer
      → WroteScan (plain_of a_archive ∷ []) answer → after ≡ before ++ codes "org,a)/ 0\n"
  scanned one (Ok n) is scan = same_bytes _ _ (one (includes usual_types) (archive_name ∷ []) (a_archive ∷ [])
      (plain_of a_archive ∷ []) (1 ∷ []) orgs_text before (Some after) (Some _) n 1 (refl, tt) (scan tt) (one_is_scanned before)).0
  scanned one (Err f) is scan = grind arith

  counted : HasOneList → (size : ℕ) (answer : Result ℕ AnswerFault) → IsChecked (Some a_line) size answer
      → MatchResult answer (λ count. WritesCount index_name count outcomes.Done (Some before) (Some after))
      (λ fault. (outcomes.Done ≡ outcomes.Answer fault) × (Some after ≡ Some before))
      → after ≡ before ++ codes "a.cdxj 1\n"
  counted one size (Ok n) (these, count) (inl (done, wrote)) =
      let known = these.known a_line refl in
      let whole : lines a_line ≡ these.before =
      known.0 ∙ (ap (λ ls. these.before ++ ls) known.1 ∙ append-nil these.before) in
      let is : IsIndex LINE_LIMIT a_line these.members =
      subst (λ ls. IsRun LINE_LIMIT ls these.members) (sym whole) these.run in
      let length_is : n ≡ 1 = count ∙ ap (λ l. Rattle.std.specs.Prelude.length l) (one LINE_LIMIT a_line these.members (member ∷ []) is line_is_index.read) in
      wrote ∙ ap (λ k. before ++ checked_line index_name k) length_is ∙ ap (λ t. before ++ t) check_text
  counted one size (Ok n) checked (inr failed) = grind arith
  counted one size (Err f) checked written = grind arith

  checked_one : (failed : Type 0) → HasOneList → ChecksOne (shelf failed).index_of (shelf failed).IndexFailed (Some before) index_name outcomes.Done (Some after)
      → after ≡ before ++ codes "a.cdxj 1\n"
  checked_one failed one (inl c) = counted one c.size c.answer c.checked c.written
  checked_one failed one (inr unopened) = grind arith

module _ (failed : Type 0) (before after : List ℕ) (unchanged : Type 0) where
  pub checks : HasOneList → Performs (shelf failed) (Some before) (Some after) unchanged outcomes.Done (ToCheck (index_name ∷ []))
      → after ≡ before ++ codes "a.cdxj 1\n"
  unfolding Performs
  checks one (ended, next, step, rest) =
      let d = one_done ended next (Some after) rest in
      checked_one before after failed one (subst (λ s. ChecksOne (shelf failed).index_of (shelf failed).IndexFailed (Some before) index_name
      outcomes.Done s) (sym d.1)
      (subst (λ o. ChecksOne (shelf failed).index_of (shelf failed).IndexFailed (Some before) index_name o next) d.0 step))

  pub merges : Performs (shelf failed) (Some before) (Some after) unchanged outcomes.Done (ToMerge (index_name ∷ index_name ∷ []))
      → after ≡ before ++ a_line
  unfolding Performs
  merges (inl m) = merged before after m.answer m.outcome_is m.merged
  merges (inr unopened) = grind arith

  pub queries : Performs (shelf failed) (Some before) (Some after) unchanged outcomes.Done (ToQuery orgs_text (index_name ∷ []))
      → after ≡ before ++ codes "org,a)/ 0\n"
  unfolding Performs
  queries (inl (q, meaning, inl a)) =
      let b = subst (λ x. AnswersQuery x (Some a_line ∷ []) (Some before) (Some after) unchanged outcomes.Done)
      (orgs_is q meaning) a in
      answered before after b.answer b.outcome_is (of_index b.page)
  queries (inl (q, meaning, inr unopened)) = grind arith
  queries (inr refused) = grind arith

  pub paginates : PagesAreOne
      → Performs (shelf failed) (Some before) (Some after) unchanged outcomes.Done (ToPages (1 ∷ []) orgs_text (index_name ∷ []))
      → after ≡ before ++ codes "org,a)/ 0\n"
  unfolding Performs
  paginates one (inl (q, meaning, inl a)) =
      let b = subst (λ x. AnswersPages x (1 ∷ []) (Some a_line ∷ []) (Some before) (Some after) unchanged outcomes.Done)
      (orgs_is q meaning) a in
      paged before after one b.answer b.outcome_is (of_index b.pages)
  paginates one (inl (q, meaning, inr unopened)) = grind arith
  paginates one (inr refused) = grind arith

  pub serves : RepliesAreOne → Performs (shelf failed) (Some before) (Some after) unchanged outcomes.Done (ToServe (index_name ∷ []))
      → after ≡ before ++ codes "org,a)/\n.\n"
  unfolding Performs
  serves one (input, is, inl a) = replied before after one a.answer a.outcome_is (rw is at a.conversation)
  serves one (input, is, inr unopened) = grind arith

  pub scans : ScanIsOne → Performs (shelf failed) (Some before) (Some after) unchanged outcomes.Done
      (ToScan usual_types None (1 ∷ []) orgs_text (archive_name ∷ [])) → after ≡ before ++ codes "org,a)/ 0\n"
  unfolding Performs
  scans one (inl (q, meaning, inl (told, are, s))) = scanned before after one s.answer s.outcome_is (only told are s.scanned)
    where
      only : (told : List ToldArchive)
          → AllZip (λ name archive. archive ≡ told_archive) (archive_name ∷ []) told
          → WroteScan before after told s.answer → WroteScan before after (plain_of a_archive ∷ []) s.answer
      only (one ∷ []) (is, _) wrote = subst (λ a. WroteScan before after (a ∷ []) s.answer) is wrote
      only other are wrote = grind arith
  scans one (inl (q, meaning, inr unopened)) = grind arith
  scans one (inr refused) = grind arith
