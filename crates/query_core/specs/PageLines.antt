-- Which lines a page has, beside those of a reply that isn't a page.
use Rattle.std.specs.Prelude.{◌≡◌, ℕ, not, Bool, true, List, [], ◌∷◌, ◌++◌, length, codes, decimal, Some}
use Rattle.std.specs.List.{AllByRecursion, list_all}
use Rattle.cdxj_places.specs.Pair.{is_space}
use Rattle.cdxj_places.specs.Rising.{IsIn}
use Rattle.cdxj_places.specs.TextLines.{lines}
use Rattle.cdxj_core.specs.Members.{Member}
use Rattle.query_text.specs.declared.output.OutputFormat.TheVariants.{Json, Text}
use Rattle.query_text.specs.Queries.{QueryValue}
use Rattle.merge_core.specs.SourceLines.{HasEntry}
use Rattle.query_core.specs.QueryPages.{answer_text, query_page, shown_key}
use Rattle.query_core.specs.Replies.{refusal_text}

-- the lines of the page of a query over these lines
abbrev pub page_lines : QueryValue → List Member → List (List ℕ)
page_lines q found = lines (answer_text q (query_page q found))

-- each line has an entry
abbrev pub HaveEntries : List Member → Type 0
HaveEntries found = AllByRecursion HasEntry found

-- the line of a fault, without the line feed before it
abbrev pub fault_row : List ℕ → ℕ → ℕ → List ℕ
fault_row name index offset = codes "fault " ++ name ++ 32 ∷ decimal index ++ 32 ∷ decimal offset ++ 10 ∷ []

abbrev pub has_no_space : List ℕ → Bool
has_no_space text = list_all (λ b. not (is_space b)) text

-- a page has a line `.` only if it is text of one field
abbrev pub OneFieldHasMarks : Type 0
OneFieldHasMarks = (q : QueryValue) (found : List Member) → HaveEntries found
    → IsIn (codes ".\n") (page_lines q found) → (q.output ≡ Text) × (length q.fields ≡ 1)

-- a page begins as a refusal only if it is text of two fields
abbrev pub TwoFieldsBeginAsRefusals : Type 0
TwoFieldsBeginAsRefusals = (q : QueryValue) (found : List Member) (name : List ℕ) (rest : List (List ℕ))
    → HaveEntries found → has_no_space name ≡ true → page_lines q found ≡ refusal_text name ∷ rest
    → (q.output ≡ Text) × (length q.fields ≡ 2)

-- no page has the line of a fault after an empty line
abbrev pub NoPageHasFaults : Type 0
NoPageHasFaults = (q : QueryValue) (found : List Member) (name : List ℕ) (index offset : ℕ)
    (before after : List (List ℕ)) → HaveEntries found
    → page_lines q found ≡ before ++ codes "\n" ∷ fault_row name index offset ∷ after → ⊥

-- in text and cdxj an empty line stands only before a resume key, which has no space and ends the page
abbrev pub EmptyLineIsBeforeKey : Type 0
EmptyLineIsBeforeKey = (q : QueryValue) (found : List Member) (before after : List (List ℕ)) → HaveEntries found
    → (q.output ≡ Json → ⊥) → (q.fields ≡ [] → ⊥) → page_lines q found ≡ before ++ codes "\n" ∷ after
    → (key : List ℕ) × (shown_key q.show_resume_key (query_page q found).next ≡ Some key)
    × (has_no_space key ≡ true) × (after ≡ (key ++ codes "\n") ∷ [])

-- a page of one field in text has no space
abbrev pub OneFieldHasNoSpace : Type 0
OneFieldHasNoSpace = (q : QueryValue) (found : List Member) → HaveEntries found → q.output ≡ Text
    → length q.fields ≡ 1 → AllByRecursion (λ line. has_no_space line ≡ true) (page_lines q found)

-- in json each line begins with `[`
abbrev pub BeginsWithBracket : List ℕ → Type 0
BeginsWithBracket line = (rest : List ℕ) × (line ≡ codes "[" ++ rest)

abbrev pub JsonLinesBeginWithBrackets : Type 0
JsonLinesBeginWithBrackets = (q : QueryValue) (found : List Member) → q.output ≡ Json
    → AllByRecursion BeginsWithBracket (page_lines q found)
