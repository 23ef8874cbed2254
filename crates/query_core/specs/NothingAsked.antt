-- The query that selects nothing, and is refused as another.
use Rattle.std.specs.Prelude.{◌≡◌, ℕ, ◌≤◌, List, [], ◌++◌, length, codes, MatchResult, Ok, Err}
use Rattle.cdxj_core.specs.Members.{Member}
use Rattle.query_text.specs.declared.fault.QueryFault.TheVariants.{NoUrl}
use Rattle.query_text.specs.declared.query.TheConstants.{QUERY_LIMIT}
use Rattle.query_text.specs.Queries.{QueryValue, query_of}
use Rattle.query_core.specs.QueryPages.{selected}

-- what is appended to a query
abbrev pub nothing : List ℕ
nothing = codes "&hasnot=urlkey:"

-- a text with it selects nothing if the text means a query, and else is refused as the text is
abbrev pub AppendedSelectsNothing : Type 0
AppendedSelectsNothing = (text : List ℕ) → length (text ++ nothing) ≤ QUERY_LIMIT
    → MatchResult (query_of QUERY_LIMIT text) (λ q. (other : QueryValue)
    × (query_of QUERY_LIMIT (text ++ nothing) ≡ Ok other) × ((lines : List Member) → selected other lines ≡ []))
    (λ refusal. query_of QUERY_LIMIT (text ++ nothing) ≡ Err refusal)

-- an empty text has no target
abbrev pub EmptyIsRefused : Type 0
EmptyIsRefused = query_of QUERY_LIMIT [] ≡ Err NoUrl
