-- How little of indexes a query reads.
use Rattle.std.specs.Prelude.{◌≡◌, ℕ, ◌+◌, ◌≤◌, List, length, map, false, Option, Some, Result, IfOk}
use Rattle.std.specs.List.{AllByRecursion, AllZip}
use Rattle.cdxj_core.specs.declared.limit.TheConstants.{LINE_LIMIT}
use Rattle.cdxj_core.specs.Indexes.{IsIndex}
use Rattle.cdxj_core.specs.Members.{Member}
use Rattle.source_core.specs.declared.source.Source.{Ghosts}
use Rattle.query_text.specs.declared.query.TheConstants.{QUERY_LIMIT}
use Rattle.query_text.specs.Matching.{covers}
use Rattle.query_text.specs.Queries.{QueryValue}
use Rattle.page_core.specs.Pages.{AllPositive}
use Rattle.merge_core.specs.Collections.{Known, all_lines, collection}
use Rattle.merge_core.specs.Counts.{ShareAtMost}
use Rattle.merge_core.specs.Spending.{AllGaveWithin, AllOpenedWithin}
use Rattle.query_core.specs.Answering.{ReadsInReach}
use Rattle.query_core.specs.AnyReplies.{IsTextReply}
use Rattle.query_core.specs.PagesReach.{GaveInPages}
use Rattle.query_core.specs.Reach.{GaveInReach, in_reach}
use Rattle.query_core.specs.ReplyReach.{AllGaveAtMost, AreFirstLines, GaveForLines, lines_most}
use Rattle.query_core.specs.declared.fault.AnswerFault.{AnswerFault}
use Rattle.query_core.specs.declared.report.Report.{Report}

-- no line of the indexes is in the range of the query's target
abbrev pub CoversNone : QueryValue → List (List Member) → Type 0
CoversNone q indexes = AllByRecursion (AllByRecursion (λ m. covers q.target m.values.key ≡ false)) indexes

module _ {S : Type 0} (device : Ghosts S) where
  -- the sources have these texts, which are these indexes
  abbrev pub HoldIndexes : List S → List (List ℕ) → List (List Member) → Type 0
  HoldIndexes sources texts indexes =
      Known (map device.text sources) texts × AllZip (IsIndex LINE_LIMIT) texts indexes

  -- ---- what isn't there costs a search in each index

  abbrev pub AbsentAnswerSearches : Type 0
  AbsentAnswerSearches = (q : QueryValue) (old new : Option (List ℕ)) (olds news : List S)
      (result : Result Report AnswerFault) (texts : List (List ℕ)) (indexes : List (List Member))
      → HoldIndexes olds texts indexes → CoversNone q indexes → ReadsInReach device q old new olds news result
      → AllOpenedWithin device olds news × IfOk result (λ report. report.lines ≤ length olds)

  abbrev pub AbsentPagesSearch : Type 0
  AbsentPagesSearch = (q : QueryValue) (sizes : List ℕ) (old new : Option (List ℕ)) (olds news : List S)
      (texts : List (List ℕ)) (indexes : List (List Member)) → HoldIndexes olds texts indexes → CoversNone q indexes
      → GaveInPages device q sizes texts indexes old new olds news → AllOpenedWithin device olds news

  -- ---- sources are read no further than what stands written asks for

  -- up to the first capture
  abbrev pub ReadToFirst : QueryValue → List (List ℕ) → List (List Member) → List S → List S → Type 0
  ReadToFirst q texts indexes olds news =
      AllGaveWithin device (in_reach q q.resume (Some 0) (collection indexes)) texts indexes olds news

  abbrev pub UnwrittenAnswerReadsFirst : Type 0
  UnwrittenAnswerReadsFirst = (q : QueryValue) (written : List ℕ) (olds news : List S) (texts : List (List ℕ))
      (indexes : List (List Member)) → GaveInReach device q texts indexes (Some written) (Some written) olds news
      → ReadToFirst q texts indexes olds news

  abbrev pub UnwrittenPagesReadFirst : Type 0
  UnwrittenPagesReadFirst = (q : QueryValue) (sizes written : List ℕ) (olds news : List S) (texts : List (List ℕ))
      (indexes : List (List Member)) → AllPositive sizes
      → GaveInPages device q sizes texts indexes (Some written) (Some written) olds news
      → ReadToFirst q texts indexes olds news

  -- for one line of the input at most
  abbrev pub UnwrittenRepliesReadOne : Type 0
  UnwrittenRepliesReadOne = (input : Option (List ℕ)) (texts : List (List ℕ)) (indexes : List (List Member))
      (written : List ℕ) (olds news : List S)
      → GaveForLines device QUERY_LIMIT (IsTextReply (map device.text olds)) input texts indexes (Some written)
      (Some written) olds news
      → (asked : List (List ℕ)) × (length asked ≤ 1) × AreFirstLines input asked
      × AllGaveAtMost device (lines_most QUERY_LIMIT (collection indexes) asked) texts indexes olds news

  -- ---- what is held, and how many steps searches take

  abbrev pub FewAreHeld : Type 0
  FewAreHeld = (q : QueryValue) (old new : Option (List ℕ)) (olds news : List S) (result : Result Report AnswerFault)
      (texts : List (List ℕ)) (indexes : List (List Member)) → HoldIndexes olds texts indexes
      → ShareAtMost 1 (all_lines indexes) → ReadsInReach device q old new olds news result
      → IfOk result (λ report. report.held ≤ length olds + 1)

  abbrev pub EmptyTakeNoStep : Type 0
  EmptyTakeNoStep = (q : QueryValue) (old new : Option (List ℕ)) (olds news : List S) (result : Result Report AnswerFault)
      → AllByRecursion (λ s. device.extent s ≡ 0) olds → ReadsInReach device q old new olds news result
      → IfOk result (λ report. report.probes ≡ 0)
