-- A call that fails has written a front of what one that succeeds writes, and its answer decides the counts of failures.
use Rattle.query_core.proofs.Words.{[], ℕ, ◌++◌, ◌<◌, ◌∷◌, ◌≡◌, Appends, AppendsPrefix, List, cut_lines, length, length-append, refl}
use Rattle.query_core.proofs.Words.{Option, QUERY_LIMIT, Some, append_assoc, arith, collection, flat_map, flat_map-append}
use Rattle.query_core.proofs.Words.{place_cmp_total, prefix_longer, reply_of, sym}
use Rattle.devices.specs.Device.{Grows}
use Rattle.devices.specs.LineCuts.{HasNoLineFeed}
use Rattle.page_core.proofs.PageLaws.{chain_one}
use Rattle.query_core.specs.CountLaws.{AnswerCountsAreOne, ServingCountsAreOne, SourceCountIsOne}
use Rattle.query_core.specs.AnyReplies.{fault_text}
use Rattle.query_core.specs.declared.fault.AnswerFault.TheVariants as fault
use Rattle.query_core.specs.Fronts.{AnswerHasFront, FaultFollowsFront, MergeHasFront, PagesHaveFront, RepliesHaveFront}
use Rattle.query_core.proofs.Words.{AnswerFault, codes, drop, inl, inr}
use Rattle.query_core.proofs.ReplyLemmas.{replies_one}
use Rattle.query_core.specs.{OneText.ConversationIsOne, OneText.TakenIsOne, Replies.marked_reply}

-- ---- fronts

-- a front of a text was written, and all of it
pub front_of : (old text : List ℕ) (part whole : Option (List ℕ)) → AppendsPrefix (Some old) part text
    → Appends (Some old) whole text → Grows part whole
front_of old text (Some bs) (Some cs) (rest, w) a = record { text = rest; grown = grind (arith, append_assoc) }
front_of old text part whole w a = grind arith

pub answer_front : AnswerHasFront
answer_front q lines old part whole fault report p w = grind (arith, front_of)

pub pages_front : PagesHaveFront
pages_front q lines sizes old part whole fault number sized p w = grind (arith, chain_one, place_cmp_total, front_of)

pub merge_front : MergeHasFront
merge_front lines old part whole fault number p w = grind (arith, front_of)

pub replies_front : RepliesHaveFront
replies_front told input old part whole fault number (first, later, some, cut, each, p) (small, counted, all, every, w)
    texts indexes known are =
    let these = replies_one told first some each texts indexes known are in
    let those = replies_one told _ all every texts indexes known are in
    let rest = flat_map (marked_reply QUERY_LIMIT (reply_of QUERY_LIMIT (collection indexes))) later in
    let longer = prefix_longer (Some old) part (flat_map (λ text. text) some) rest p in
    let joined : flat_map (λ text. text) some ++ rest ≡ flat_map (λ text. text) all = grind (arith, flat_map-append) in
    front_of old (flat_map (λ text. text) all) part whole (rw (sym joined) longer) w

-- a conversation over indexes writes one text
pub conversation_one : ConversationIsOne
conversation_one told input old new new' number number' (small, counted, texts, each, w) (small', counted', texts', each', w')
    these indexes known are =
    let one = replies_one told _ texts each these indexes known are in
    let other = replies_one told _ texts' each' these indexes known are in
    grind arith

-- ---- a reply with a fault

a_fault_line : (f : AnswerFault) (line : List ℕ) → fault_text f ≡ Some line
    → (rest : List ℕ) × (line ≡ codes "\nfault " ++ rest)
a_fault_line (fault.BadLine i offset) line is = (drop 7 line, grind arith)
a_fault_line (fault.OutOfOrder i offset) line is = (drop 7 line, grind arith)
a_fault_line f line is = grind arith

pub fault_front : FaultFollowsFront
fault_front told q reply page = (
  page.lines,
  elim page.holds [
    | inl whole ↦ inl whole
    | inr ended ↦
        let line = a_fault_line ended.fault ended.line ended.line_is in
        inr (ended.front, ended.rest, line.0, ended.whole, rw (← line.1) ended.ends)
  ],
)

-- ---- what was taken of an input that failed

cut_some : (b : ℕ) (bs : List ℕ) → 0 < length (cut_lines (b ∷ bs))
cut_some b bs = grind arith

-- a part of a line before a text is one with the text's first
part_joins : (part left : List ℕ) → HasNoLineFeed part → (left ≡ [] → ⊥)
    → length (cut_lines (part ++ left)) ≡ length (cut_lines left)
part_joins [] left none some = refl
part_joins (b ∷ part) [] none some = absurd (some refl)
part_joins (b ∷ part) (c ∷ left) none some =
    grind (arith, part_joins part (c ∷ left), cut_some c left)

front_same : (us vs us' vs' : List (List ℕ)) → us ++ vs ≡ us' ++ vs' → length vs ≡ length vs' → us ≡ us'
front_same [] vs [] vs' same even = refl
front_same [] vs (u ∷ us') vs' same even = grind (arith, length-append)
front_same (u ∷ us) vs [] vs' same even = grind (arith, length-append)
front_same (u ∷ us) vs (u' ∷ us') vs' same even = grind (arith, front_same us vs us' vs')

pub taken_one : TakenIsOne
taken_one told input left old new new' short some (ls, later, texts, cut, behind, each, wrote)
    (ls', later', texts', cut', behind', each', wrote') these indexes known are =
    let one = behind short in
    let other = behind' short in
    let as_many : length later ≡ length later' = grind (arith, part_joins) in
    let same = front_same ls later ls' later' (grind arith) as_many in
    let these_texts = replies_one told _ texts each these indexes known are in
    let those_texts = replies_one told _ texts' each' these indexes known are in
    grind arith

-- ---- counts

pub answer_counts : AnswerCountsAreOne
answer_counts result sources these those out this that a b = grind arith

pub source_count : SourceCountIsOne
source_count result source this that a b = grind arith

pub serving_counts : ServingCountsAreOne
serving_counts result sources these those out this that input here there left other a b = grind arith
