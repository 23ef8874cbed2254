-- The reply to a query over sources of any bytes.
use Rattle.std.specs.Prelude.{◌≡◌, ◌⊎◌, ℕ, List, ◌++◌, codes, Option, None, Some, Result, Ok, Err}
use Rattle.query_text.specs.declared.fault.QueryFault.{QueryFault}
use Rattle.query_text.specs.declared.query.TheConstants.{QUERY_LIMIT}
use Rattle.query_text.specs.FaultNames.{query_fault_name}
use Rattle.query_text.specs.Queries.{QueryValue, query_of}
use Rattle.merge_core.specs.SourceLines.{HoldsOfLines}
use Rattle.query_core.specs.declared.fault.AnswerFault.{AnswerFault}
use Rattle.query_core.specs.declared.fault.AnswerFault.TheVariants as fault
use Rattle.query_core.specs.IndexFaults.{IsAnswerFaultOf}
use Rattle.query_core.specs.QueryPages.{query_page, answer_text}
use Rattle.query_core.specs.Replies.{refusal_text, reply_fault_line}

-- what is written of a fault that names a line
abbrev pub fault_text : AnswerFault → Option (List ℕ)
fault_text (fault.BadLine i offset) = Some (reply_fault_line (codes "BadLine") i offset)
fault_text (fault.OutOfOrder i offset) = Some (reply_fault_line (codes "OutOfOrder") i offset)
fault_text other = None

-- the sources, by their bytes, where those are known
module _ (told : List (Option (List ℕ))) where
  -- a front of the page, and then the fault of a line of the sources
  pub record EndsInFault (page reply : List ℕ) : Type 0 where
    pub front : List ℕ
    pub rest : List ℕ
    pub whole : page ≡ front ++ rest
    pub fault : AnswerFault
    pub named : IsAnswerFaultOf told fault
    pub line : List ℕ
    pub line_is : fault_text fault ≡ Some line
    pub ends : reply ≡ front ++ line

  -- the page of lines of the sources that rise by place, whole or up to the fault of a line
  abbrev pub IsPageReply : QueryValue → List ℕ → Type 0
  IsPageReply q reply = HoldsOfLines told (λ lines.
      (reply ≡ answer_text q (query_page q lines)) ⊎ EndsInFault (answer_text q (query_page q lines)) reply)

  -- the same, or the name of the query's refusal
  abbrev pub IsQueryReply : Result QueryValue QueryFault → List ℕ → Type 0
  IsQueryReply (Ok q) reply = IsPageReply q reply
  IsQueryReply (Err refusal) reply = reply ≡ refusal_text (query_fault_name refusal)

  -- the same for a text
  abbrev pub IsTextReply : List ℕ → List ℕ → Type 0
  IsTextReply text reply = IsQueryReply (query_of QUERY_LIMIT text) reply
