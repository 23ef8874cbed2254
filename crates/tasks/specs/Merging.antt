-- The merge of indexes that a command writes.
use Rattle.std.specs.Prelude.{◌≡◌, ℕ, List, length, Option, Result, IfOk, IfErr}
use Rattle.merge_core.specs.Collections.{AreIndexes, OverTexts}
use Rattle.merge_core.specs.SourceLines.{HoldsOfLines, WritesLines}
use Rattle.query_core.specs.declared.fault.AnswerFault.{AnswerFault}
use Rattle.query_core.specs.IndexFaults.{IsAnswerFaultOf}
use Rattle.query_core.specs.Refusals.{Refuses, too_many}
use Rattle.outcomes.specs.declared.outcome.Outcome.{Outcome}
use Rattle.outcomes.specs.Outcome.{answered_outcome}

-- sources were merged: lines of theirs that rise were written, whole or in part; they are indexes, unless it was refused
pub record MergesIndexes (told : List (Option (List ℕ))) (before after : Option (List ℕ)) (unchanged : Type 0)
    (outcome : Outcome) : Type 0 where
  pub answer : Result ℕ AnswerFault
  pub outcome_is : outcome ≡ answered_outcome answer
  pub refused : Refuses (too_many (length told)) answer unchanged
  pub merged : HoldsOfLines told (WritesLines (λ number. number) answer before after)
  pub indexes : OverTexts told (λ texts. IfOk answer (λ _. AreIndexes texts))
  pub fault : IfErr answer (IsAnswerFaultOf told)
