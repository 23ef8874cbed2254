-- What a call that writes the pages of a query over indexes owes.
use Rattle.std.specs.Prelude.{◌≡◌, ℕ, List, true, Option, Result, MatchResult}
use Rattle.std.specs.List.{AllZip}
use Rattle.cdxj_core.specs.Members.{Member}
use Rattle.query_text.specs.Matching.{is_past}
use Rattle.query_text.specs.Queries.{QueryValue}
use Rattle.merge_core.specs.Collections.{collection}
use Rattle.merge_core.specs.Runs.{IsPart}
pub use Rattle.query_core.specs.WrittenPages.{are_sizes, pages_text, IsReadBack, EndsWithKey, KeysButLast, empty_page}
pub use Rattle.query_core.specs.WrittenPages.{WrotePages, WrotePagesInPart}
use Rattle.query_core.specs.declared.fault.AnswerFault.{AnswerFault}

-- the pages of these lines were written, or after a fault a front of them
abbrev pub WritesPages : QueryValue → List Member → List ℕ → Result ℕ AnswerFault → Option (List ℕ) → Option (List ℕ)
    → Type 0
WritesPages q lines sizes result old new = MatchResult result (WrotePages q lines sizes old new)
    (λ _. are_sizes sizes ≡ true → WrotePagesInPart q lines sizes old new)

-- Of each source consecutive lines were read, which are an index by themselves: all of the query's range. The pages are
-- those of these lines.
pub record WrotePagesOfParts (q : QueryValue) (texts : List (List ℕ)) (sizes : List ℕ)
    (old new : Option (List ℕ)) (number : ℕ) : Type 0 where
  pub parts : List (List Member)
  pub each : AllZip (IsPart (is_past q.target) true) texts parts
  pub wrote : WrotePages q (collection parts) sizes old new number
