-- Of the same lines, and over a known output, a call that fails has written a front of what one that succeeds writes.
use Rattle.std.specs.Prelude.{◌≡◌, ◌⊎◌, ℕ, List, ◌++◌, codes, true, Option, Some, Ok, Err}
use Rattle.cdxj_core.specs.Members.{Member}
use Rattle.devices.specs.Device.{Grows}
use Rattle.query_text.specs.declared.query.TheConstants.{QUERY_LIMIT}
use Rattle.query_text.specs.Queries.{QueryValue}
use Rattle.merge_core.specs.Collections.{OverIndexes}
use Rattle.merge_core.specs.SourceLines.{WritesLines}
use Rattle.query_core.specs.declared.fault.AnswerFault.{AnswerFault}
use Rattle.query_core.specs.declared.report.Report.{Report}
use Rattle.query_core.specs.Answering.{WritesAnswer}
use Rattle.query_core.specs.AnyReplies.{IsPageReply, IsTextReply}
use Rattle.query_core.specs.QueryPages.{answer_text, query_page}
use Rattle.query_core.specs.Conversations.{Converses}
use Rattle.query_core.specs.Paging.{WritesPages, are_sizes}

abbrev pub AnswerHasFront : Type 0
AnswerHasFront = (q : QueryValue) (lines : List Member) (old : List ℕ) (part whole : Option (List ℕ))
    (fault : AnswerFault) (report : Report) → WritesAnswer q lines (Err fault) (Some old) part
    → WritesAnswer q lines (Ok report) (Some old) whole → Grows part whole

abbrev pub PagesHaveFront : Type 0
PagesHaveFront = (q : QueryValue) (lines : List Member) (sizes old : List ℕ) (part whole : Option (List ℕ))
    (fault : AnswerFault) (number : ℕ) → are_sizes sizes ≡ true
    → WritesPages q lines sizes (Err fault) (Some old) part
    → WritesPages q lines sizes (Ok number) (Some old) whole → Grows part whole

abbrev pub MergeHasFront : Type 0
MergeHasFront = (lines : List Member) (old : List ℕ) (part whole : Option (List ℕ)) (fault : AnswerFault) (number : ℕ)
    → WritesLines (λ (n : ℕ). n) (Err fault) (Some old) part lines
    → WritesLines {E = AnswerFault} (λ n. n) (Ok number) (Some old) whole lines → Grows part whole

-- over indexes, of the replies to an input
abbrev pub RepliesHaveFront : Type 0
RepliesHaveFront = (told : List (Option (List ℕ))) (input old : List ℕ) (part whole : Option (List ℕ))
    (fault : AnswerFault) (number : ℕ) → Converses QUERY_LIMIT (IsTextReply told) (Err fault) (Some input) (Some old) part
    → Converses QUERY_LIMIT (IsTextReply told) (Ok number) (Some input) (Some old) whole
    → OverIndexes told (λ _ _. Grows part whole)

-- and a reply over any bytes is a page of lines of theirs, or a front of one and then a fault
abbrev pub FaultFollowsFront : Type 0
FaultFollowsFront = (told : List (Option (List ℕ))) (q : QueryValue) (reply : List ℕ) → IsPageReply told q reply
    → (lines : List Member) × ((reply ≡ answer_text q (query_page q lines))
    ⊎ ((front : List ℕ) × (rest : List ℕ) × (line : List ℕ) × (answer_text q (query_page q lines) ≡ front ++ rest)
    × (reply ≡ front ++ (codes "\nfault " ++ line))))
