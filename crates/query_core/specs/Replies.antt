-- What is written for the lines of an input.
use Rattle.std.specs.Prelude.{ℕ, nat_lt, List, [], ◌∷◌, ◌++◌, length, flat_map, codes, decimal, Result, Ok, Err}
use Rattle.std.specs.Prelude.{if◌then◌else◌}
use Rattle.std.specs.Str.{is_utf8}
use Rattle.cdxj_core.specs.Members.{Member}
use Rattle.devices.specs.LineCuts.{input_lines}
use Rattle.query_text.specs.declared.fault.QueryFault.{QueryFault}
use Rattle.query_text.specs.FaultNames.{query_fault_name}
use Rattle.query_text.specs.Queries.{QueryValue, query_of}
use Rattle.query_core.specs.QueryPages.{query_page, answer_text}

abbrev pub refusal_text : List ℕ → List ℕ
refusal_text name = codes "refused " ++ name ++ 10 ∷ []

abbrev pub reply_fault_line : List ℕ → ℕ → ℕ → List ℕ
reply_fault_line name index offset = codes "\nfault " ++ name ++ 32 ∷ decimal index ++ 32 ∷ decimal offset ++ 10 ∷ []

-- the page of a query over these lines, or the name of its refusal
abbrev pub reply_to : List Member → Result QueryValue QueryFault → List ℕ
reply_to lines (Ok q) = answer_text q (query_page q lines)
reply_to lines (Err fault) = refusal_text (query_fault_name fault)

-- the limit of a query, in bytes
module _ (limit : ℕ) where
  -- the reply to a text
  abbrev pub reply_of : List Member → List ℕ → List ℕ
  reply_of lines text = reply_to lines (query_of limit text)

  -- the reply to a line, where this is the reply to a text within the limit
  abbrev pub reply_text : (List ℕ → List ℕ) → List ℕ → List ℕ
  reply_text reply line =
      if nat_lt limit (length line) then refusal_text (codes "QueryTooLong")
      else (if is_utf8 line then reply line else refusal_text (codes "NotText"))

  -- the same, with a line `.` after it
  abbrev pub marked_reply : (List ℕ → List ℕ) → List ℕ → List ℕ
  marked_reply reply line = reply_text reply line ++ codes ".\n"

  -- the replies to all lines of an input
  abbrev pub replies : (List ℕ → List ℕ) → List ℕ → List ℕ
  replies reply input = flat_map (marked_reply reply) (input_lines input)
