-- Of the same lines, and over a known output, a call that succeeds writes one text.
use Rattle.std.specs.Prelude.{◌≡◌, ℕ, ◌-◌, ◌^◌, ◌<◌, List, [], length, flat_map, Option, Some, Ok}
use Rattle.std.specs.List.{AllZip}
use Rattle.cdxj_core.specs.Members.{Member}
use Rattle.query_text.specs.declared.query.TheConstants.{QUERY_LIMIT}
use Rattle.query_text.specs.Queries.{QueryValue}
use Rattle.merge_core.specs.Collections.{OverIndexes, collection}
use Rattle.merge_core.specs.SourceLines.{WritesLines}
use Rattle.query_core.specs.declared.fault.AnswerFault.{AnswerFault}
use Rattle.query_core.specs.declared.report.Report.{Report}
use Rattle.query_core.specs.Answering.{WritesAnswer}
use Rattle.query_core.specs.AnyReplies.{IsTextReply}
use Rattle.query_core.specs.Conversations.{Converses, IsMarkedReply, RepliedToTaken}
use Rattle.query_core.specs.Paging.{WritesPages}
use Rattle.query_core.specs.Replies.{marked_reply, reply_of}

abbrev pub AnswerIsOne : Type 0
AnswerIsOne = (q : QueryValue) (lines : List Member) (old : List ℕ) (new new' : Option (List ℕ))
    (report report' : Report) → WritesAnswer q lines (Ok report) (Some old) new
    → WritesAnswer q lines (Ok report') (Some old) new'
    → (new ≡ new') × (report.given ≡ report'.given) × (report.more ≡ report'.more)

abbrev pub PagesAreOne : Type 0
PagesAreOne = (q : QueryValue) (lines : List Member) (sizes old : List ℕ) (new new' : Option (List ℕ))
    (number number' : ℕ) → WritesPages q lines sizes (Ok number) (Some old) new
    → WritesPages q lines sizes (Ok number') (Some old) new' → (new ≡ new') × (number ≡ number')

abbrev pub MergeIsOne : Type 0
MergeIsOne = (lines : List Member) (old : List ℕ) (new new' : Option (List ℕ)) (number number' : ℕ)
    → WritesLines {E = AnswerFault} (λ n. n) (Ok number) (Some old) new lines
    → WritesLines {E = AnswerFault} (λ n. n) (Ok number') (Some old) new' lines → (new ≡ new') × (number ≡ number')

-- over indexes the replies to lines are those of their collection
abbrev pub RepliesAreOne : Type 0
RepliesAreOne = (told : List (Option (List ℕ))) (lines texts : List (List ℕ))
    → AllZip (IsMarkedReply QUERY_LIMIT (IsTextReply told)) lines texts → OverIndexes told (λ _ indexes.
    flat_map (λ text. text) texts ≡ flat_map (marked_reply QUERY_LIMIT (reply_of QUERY_LIMIT (collection indexes))) lines)

-- and a conversation over them that succeeds writes one text
abbrev pub ConversationIsOne : Type 0
ConversationIsOne = (told : List (Option (List ℕ))) (input old : List ℕ) (new new' : Option (List ℕ))
    (number number' : ℕ) → Converses QUERY_LIMIT (IsTextReply told) (Ok number) (Some input) (Some old) new
    → Converses QUERY_LIMIT (IsTextReply told) (Ok number') (Some input) (Some old) new'
    → OverIndexes told (λ _ _. (new ≡ new') × (number ≡ number'))

-- where the input failed within it, what was written is decided by what is left of it
abbrev pub TakenIsOne : Type 0
TakenIsOne = (told : List (Option (List ℕ))) (input left old : List ℕ) (new new' : Option (List ℕ))
    → length input < 2 ^ 63 - 1 → (left ≡ [] → ⊥)
    → RepliedToTaken QUERY_LIMIT (IsTextReply told) (Some input) (Some left) (Some old) new
    → RepliedToTaken QUERY_LIMIT (IsTextReply told) (Some input) (Some left) (Some old) new'
    → OverIndexes told (λ _ _. new ≡ new')
