-- What a call that answers a query owes.
use Rattle.std.specs.Prelude.{◌≡◌, ℕ, ◌+◌, ◌-◌, ◌^◌, ◌≤◌, List, length, map, min, not, Option, Result, IfOk}
use Rattle.std.specs.Prelude.{MatchResult}
use Rattle.std.specs.List.{AllZip, filter, sum}
use Rattle.std.specs.Option.{is_some}
use Rattle.std.specs.Io.KnownBytes.{Appends}
use Rattle.cdxj_core.specs.Members.{Member}
use Rattle.devices.specs.Device.{AppendsPrefix}
use Rattle.merge_core.specs.Spending.{search_steps}
use Rattle.source_core.specs.declared.source.Source.{Ghosts}
use Rattle.query_text.specs.Queries.{QueryValue}
use Rattle.query_text.specs.Matching.{is_past}
use Rattle.merge_core.specs.Collections.{OverIndexes, all_lines, collection}
use Rattle.merge_core.specs.Counts.{ShareAtMost}
use Rattle.merge_core.specs.Runs.{IsPart}
use Rattle.query_core.specs.declared.fault.AnswerFault.{AnswerFault}
use Rattle.query_core.specs.declared.report.Report.{Report}
use Rattle.query_core.specs.QueryPages.{query_page, answer_text}
use Rattle.query_core.specs.Reach.{GaveInReach, in_reach}

-- the page of these lines was written, and the report is its
pub record Answered (q : QueryValue) (lines : List Member) (old new : Option (List ℕ)) (report : Report) : Type 0 where
  pub text : Appends old new (answer_text q (query_page q lines))
  pub given : report.given ≡ min (length (query_page q lines).members) (2 ^ 64 - 1)
  pub more : report.more ≡ is_some (query_page q lines).next

-- the same, or after a fault a front of the page was written
abbrev pub WritesAnswer : QueryValue → List Member → Result Report AnswerFault → Option (List ℕ) → Option (List ℕ)
    → Type 0
WritesAnswer q lines result old new =
    MatchResult result (Answered q lines old new) (λ _. AppendsPrefix old new (answer_text q (query_page q lines)))

-- Of each source consecutive lines were read, which are an index by themselves. They are so many together, and the page
-- and its report are those of these lines. If no capture follows the page, they are all of the query's range.
pub record AnsweredParts (q : QueryValue) (texts : List (List ℕ)) (old new : Option (List ℕ))
    (report : Report) : Type 0 where
  pub parts : List (List Member)
  pub each : AllZip (IsPart (is_past q.target) (not report.more)) texts parts
  pub lines : report.lines ≡ min (sum (map length parts)) (2 ^ 64 - 1)
  pub answered : Answered q (collection parts) old new report
  pub least : report.given ≤ report.lines

-- How much was read. The searches take no more steps than the sizes have binary digits. Over indexes, no more lines are
-- read than those in reach of the page and one of each source, and no more are held than one of each source and those
-- that share a pair.
pub record ReadsInReach {S : Type 0} (device : Ghosts S) (q : QueryValue) (old new : Option (List ℕ))
    (olds news : List S) (result : Result Report AnswerFault) : Type 0 where
  pub probes : IfOk result (λ report. report.probes ≤ search_steps device olds)
  pub lines : OverIndexes (map device.text olds) (λ texts indexes. IfOk result (λ report.
      report.lines ≤ length (filter (in_reach q q.resume q.limit (collection indexes)) (all_lines indexes)) + length
      olds))
  pub bytes : OverIndexes (map device.text olds)
      (λ texts indexes. GaveInReach device q texts indexes old new olds news)
  pub held : OverIndexes (map device.text olds) (λ texts indexes.
      (most : ℕ) → ShareAtMost most (all_lines indexes) → IfOk result (λ report. report.held ≤ length olds + most))
