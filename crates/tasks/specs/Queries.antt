-- The reading of a query text by a command, the answers that it writes, and the replies to lines of queries.
use Rattle.std.specs.Prelude.{◌≡◌, ◌≢◌, ◌⊎◌, ℕ, List, length, Option, Result, Ok, Err, IfOk, IfErr}
use Rattle.query_text.specs.declared.fault.QueryFault.TheVariants as queries
use Rattle.query_text.specs.declared.query.TheConstants.{QUERY_LIMIT}
use Rattle.query_text.specs.Queries.{QueryValue, query_of}
use Rattle.merge_core.specs.Collections.{OverTexts}
use Rattle.merge_core.specs.SourceLines.{HoldsOfLines}
use Rattle.query_core.specs.declared.fault.AnswerFault.{AnswerFault}
use Rattle.query_core.specs.declared.fault.AnswerFault.TheVariants as answers
use Rattle.query_core.specs.declared.report.Report.{Report}
use Rattle.query_core.specs.Answering.{AnsweredParts, WritesAnswer}
use Rattle.query_core.specs.AnyReplies.{IsTextReply}
use Rattle.query_core.specs.Conversations.{Converses, RepliedToTaken}
use Rattle.query_core.specs.IndexFaults.{IsAnswerFaultOf}
use Rattle.query_core.specs.Paging.{WritesPages, WrotePagesOfParts}
use Rattle.query_core.specs.Refusals.{Refuses, bad_sizes_or_too_many, too_many}
use Rattle.outcomes.specs.declared.outcome.Outcome.{Outcome}
use Rattle.outcomes.specs.Outcome.{answered_outcome}
use Rattle.outcomes.specs.declared.outcome.Outcome.TheVariants as outcomes

-- the query of the text, or its refusal, unless memory failed
abbrev pub ReadsQuery : List ℕ → Result QueryValue Outcome → Type 0
ReadsQuery text (Ok query) = query_of QUERY_LIMIT text ≡ Ok query
ReadsQuery text (Err (outcomes.Query fault)) = fault ≢ queries.Memory → query_of QUERY_LIMIT text ≡ Err fault
ReadsQuery text (Err outcome) = ⊥

-- the query text was read and this was done with the query, or it is refused and nothing was written
abbrev pub ReadsFirst : List ℕ → Outcome → Type 0 → (QueryValue → Type 0) → Type 0
ReadsFirst text outcome unchanged Done =
    ((query : QueryValue) × (query_of QUERY_LIMIT text ≡ Ok query) × Done query)
    ⊎ (ReadsQuery text (Err outcome) × unchanged)

-- a query was answered over sources: the page of lines of theirs that rise was written, whole or in part, and a line that
-- a fault names is at fault
pub record AnswersQuery (query : QueryValue) (told : List (Option (List ℕ))) (before after : Option (List ℕ))
    (unchanged : Type 0) (outcome : Outcome) : Type 0 where
  pub answer : Result Report AnswerFault
  pub outcome_is : outcome ≡ answered_outcome answer
  pub refused : Refuses (too_many (length told)) answer unchanged
  pub page : HoldsOfLines told (λ lines. WritesAnswer query lines answer before after)
  pub parts : OverTexts told (λ texts. IfOk answer (AnsweredParts query texts before after))
  pub fault : IfErr answer (IsAnswerFaultOf told)

-- the same of the pages of these sizes
pub record AnswersPages (query : QueryValue) (sizes : List ℕ) (told : List (Option (List ℕ)))
    (before after : Option (List ℕ)) (unchanged : Type 0) (outcome : Outcome) : Type 0 where
  pub answer : Result ℕ AnswerFault
  pub outcome_is : outcome ≡ answered_outcome answer
  pub refused : Refuses (bad_sizes_or_too_many sizes (length told)) answer unchanged
  pub pages : HoldsOfLines told (λ lines. WritesPages query lines sizes answer before after)
  pub parts : OverTexts told (λ texts. IfOk answer (WrotePagesOfParts query texts sizes before after))
  pub fault : IfErr answer (IsAnswerFaultOf told)

-- lines of an input were answered over sources: the replies were written, whole or in part
pub record AnswersLines (told : List (Option (List ℕ))) (lines : Option (List ℕ)) (before after : Option (List ℕ))
    (unchanged : Type 0) (outcome : Outcome) : Type 0 where
  pub answer : Result ℕ AnswerFault
  pub outcome_is : outcome ≡ answered_outcome answer
  pub refused : Refuses (too_many (length told)) answer unchanged
  pub conversation : Converses QUERY_LIMIT (IsTextReply told) answer lines before after
  pub taken : answer ≡ Err answers.Input
      → (left : Option (List ℕ)) × RepliedToTaken QUERY_LIMIT (IsTextReply told) lines left before after
