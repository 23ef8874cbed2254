-- The replies to the lines of an input, so far and at its end.
use Rattle.query_core.proofs.Words.{[], ℕ, ⊤, ◌++◌, ◌+◌, ◌-◌, ◌<◌, ◌^◌, ◌∙◌, ◌∷◌, ◌≡◌, ◌≤◌, ◌⊎◌, AllGaveWithin, AllZip}
use Rattle.query_core.proofs.Words.{AnswerFault, Appends, Appends-join, Appends-none, AppendsPrefix, Bool}
use Rattle.query_core.proofs.Words.{CountsTaken, Err, Ghosts, IsAnswerFaultOf, IsIndex, Known, LINE_LIMIT, List, Member}
use Rattle.query_core.proofs.Words.{None, Ok, Option, OverIndexes, QUERY_LIMIT, QueryFault, QueryValue, Some, TakesLine, answer_text, ap}
use Rattle.query_core.proofs.Words.{append-nil, append_assoc, arith, cases_lt, codes, collection, cut_lines}
use Rattle.query_core.proofs.Words.{err_from_is_err_and, false, false_from_ne_true, flat_map, flat_map-append}
use Rattle.query_core.proofs.Words.{grows_not, grows_part, in_reach, inl, inr, is_utf8, is_utf8-from_IsUtf8, le-ltb, length}
use Rattle.query_core.proofs.Words.{length-append, length-take, lt-ltb, map, map-append, nat_lt, prefix_after}
use Rattle.query_core.proofs.Words.{prefix_longer, prepend_known, query_of, query_page, refl, reply_of, subst, sum, sym}
use Rattle.query_core.proofs.Words.{take, take_all, true, without_carriage_return, wrote_nothing}
use Rattle.std.specs.Prelude.{IsErrAnd, Result}
use Rattle.std.proofs.{lemmas.List.Elements.AllZip-push, lemmas.List.Sums.sum_by_push, lemmas.Str.IsUtf8-from_is_utf8}
use Rattle.devices.specs.LineReading.{IsInputLineFault, IsTooLong, StopsInLine}
use Rattle.devices.specs.{Writing.WritesText, declared.input_lines.InputLineFault.InputLineFault}
use Rattle.query_core.specs.{Conversions.fault_of_line, Replies.marked_reply, Replies.reply_to}
use Rattle.query_core.specs.ReplyReach.{AllGaveAtMost, Amount, AreFirstLines, GaveForLines, asked_most, line_most}
use Rattle.query_core.specs.ReplyReach.{lines_most, query_most}
use Rattle.query_core.specs.Conversations.{AreLeft, IsLineReply, IsMarkedReply, RepliedToAll, RepliedToFirst}
use Rattle.query_core.specs.Conversations.{RepliedToTaken, WritesSome}
use Rattle.query_core.specs.{IndexFaults.NamesNoLine, OneText.RepliesAreOne}
use Rattle.query_core.proofs.PageIndexes.{no_line_at_fault}
use Rattle.merge_core.specs.SourceLines.{HoldsOfLines}
use Rattle.merge_core.proofs.CollectedLemmas.{of_lines}
use Rattle.query_core.proofs.PagesLemmas.{whole_prefix}
use Rattle.query_core.specs.AnyReplies.{EndsInFault, IsPageReply, IsQueryReply, fault_text}
use Rattle.devices.specs.declared.input_lines.InputLineFault.TheVariants as input
use Rattle.query_core.specs.declared.fault.AnswerFault.TheVariants as fault

-- ---- what was written

pub writes_some : {A E : Type 0} (r : Result A E) (old new : Option (List ℕ)) (Is : List ℕ → Type 0) (text : List ℕ)
    → Is text → WritesText r old new text → WritesSome r old new Is
writes_some r old new Is text is w = grind arith

-- a text and then another
pub marked : {A E : Type 0} (r : Result A E) (old mid new : Option (List ℕ)) (text mark : List ℕ) → Appends old mid text
    → WritesText r mid new mark → WritesText r old new (text ++ mark)
marked (Ok x) old mid new text mark a w = Appends-join old mid new text mark a w
marked (Err e) old mid new text mark a w = prefix_after old mid new text mark a w

-- ---- the reply to a query

-- the fault of a line after a front of the page
pub fault_reply : {A E : Type 0} (told : List (Option (List ℕ))) (q : QueryValue) (r : Result A E)
    (old mid new : Option (List ℕ)) (fault : AnswerFault) (line : List ℕ)
    → HoldsOfLines told (λ lines. AppendsPrefix old mid (answer_text q (query_page q lines)))
    → IsAnswerFaultOf told fault → fault_text fault ≡ Some line → WritesText r mid new line
    → WritesSome r old new (IsPageReply told q)
fault_reply told q r old mid new fault line page named is w =
    let wrote = page.holds.1 in
    let ends : EndsInFault told (answer_text q (query_page q page.lines)) (wrote.front ++ line) = record {
      front = wrote.front;
      rest = page.holds.0;
      whole = wrote.whole;
      fault = fault;
      named = named;
      line = line;
      line_is = is;
      ends = refl;
    } in
    writes_some r old new (IsPageReply told q) (wrote.front ++ line)
    (record { lines = page.lines; are = page.are; whole = page.whole; holds = inr ends })
    (marked r old mid new wrote.front line wrote.grown w)

-- there is one
pub some_reply : (told : List (Option (List ℕ))) (r : Result QueryValue QueryFault) → (reply : List ℕ)
    × IsQueryReply told r reply
some_reply told (Ok q) =
    let some : HoldsOfLines told (λ lines. ⊤) = of_lines [] (grind arith) tt (λ texts indexes known are. tt) in
    (_, record { lines = some.lines; are = some.are; whole = some.whole; holds = inl refl })
some_reply told (Err fault) = grind arith

no_fault : (fault : AnswerFault) (line : List ℕ) → NamesNoLine fault → fault_text fault ≡ Some line → ⊥
no_fault (fault.BadLine i offset) line none is = none
no_fault (fault.OutOfOrder i offset) line none is = none
no_fault other line none is = grind arith

-- over indexes each text has one
query_one : (told : List (Option (List ℕ))) (r : Result QueryValue QueryFault) (reply : List ℕ) → IsQueryReply told r reply
    → OverIndexes told (λ texts indexes. reply ≡ reply_to (collection indexes) r)
query_one told (Ok q) reply page texts indexes known are =
    let whole = page.whole texts indexes known are in elim page.holds [
      | inl is ↦ rw (← whole) is
      | inr ends ↦ absurd (no_fault ends.fault ends.line (no_line_at_fault told ends.fault ends.named texts indexes known are) ends.line_is)
    ]
query_one told (Err fault) reply is texts indexes known are = is

-- ---- the reply to a line

-- whether a line is a text within the limit
pub ruleset line_tests = (le-ltb, false_from_ne_true, IsUtf8-from_is_utf8, is_utf8-from_IsUtf8)

-- with the line `.`
module _ (limit : ℕ) (IsReply : List ℕ → List ℕ → Type 0) (line : List ℕ) (old mid : Option (List ℕ)) where
  pub reply_marked : {A E : Type 0} (r : Result A E) (new : Option (List ℕ)) → (reply : List ℕ)
      × IsLineReply limit IsReply line reply × Appends old mid reply
      → WritesText r mid new (codes ".\n") → WritesSome r old new (IsMarkedReply limit IsReply line)
  reply_marked r new (reply, is, a) w = let m = marked r old mid new reply (codes ".\n") a w in grind arith

  pub unmarked_reply : (reply : List ℕ) × IsLineReply limit IsReply line reply × AppendsPrefix old mid reply
      → (text : List ℕ) × IsMarkedReply limit IsReply line text × AppendsPrefix old mid text
  unmarked_reply (reply, is, p) = (reply ++ codes ".\n", (reply, is, refl), prefix_longer old mid reply (codes ".\n") p)

abbrev joined : List (List ℕ) → List ℕ
joined texts = flat_map (λ text. text) texts

pub joined_more : (texts : List (List ℕ)) (text : List ℕ) → joined (texts ++ text ∷ []) ≡ joined texts ++ text
joined_more texts text = grind (arith, flat_map-append, append-nil)

-- ---- a line, of which the first bytes are held

-- the same line, or both too long
abbrev pub AreAlike : ℕ → List ℕ → List ℕ → Type 0
AreAlike limit line shown = (line ≡ shown) ⊎ ((limit < length line) × (limit < length shown))

alike : (limit : ℕ) (seen : List ℕ)
    → AreAlike limit (without_carriage_return (take (limit + 2) seen)) (without_carriage_return seen)
alike limit seen = grind (arith, cases_lt, length-take, length-take, take_all)

-- ---- the lines so far

-- these lines were taken of an input, of which these bytes are left
abbrev pub AreTaken : Option (List ℕ) → Option (List ℕ) → List (List ℕ) → Type 0
AreTaken None now done = ⊤
AreTaken (Some input) None done = ⊥
AreTaken (Some input) (Some rest) done =
    (seen : List (List ℕ)) × (cut_lines input ≡ seen ++ cut_lines rest) × (done ≡ map without_carriage_return seen)

pub taken_more : (limit : ℕ) (input now after : Option (List ℕ)) (done : List (List ℕ)) (line : List ℕ)
    → AreTaken input now done → TakesLine (limit + 2) true now after line
    → (shown : List ℕ) × AreTaken input after (done ++ shown ∷ []) × AreAlike limit (without_carriage_return line) shown
taken_more limit (Some input) (Some now) (Some rest) done line (seen, cut, is) (next, first, held) =
    let step : cut_lines input ≡ (seen ++ next ∷ []) ++ cut_lines rest = grind (arith, append_assoc) in
    (without_carriage_return next, (seen ++ next ∷ [], step, grind (arith, map-append)), rw held (alike limit next))
taken_more limit input now after done line a t = (without_carriage_return line, grind arith, inl refl)

pub taken_first : (input now : Option (List ℕ)) (done : List (List ℕ)) → AreTaken input now done
    → AreFirstLines input done
taken_first (Some input) (Some now) done (seen, cut, is) =
    (map without_carriage_return (cut_lines now), grind (arith, map-append))
taken_first input now done a = grind arith

-- what is left of an input that isn't too long
left_behind : (now : List ℕ) (left : Option (List ℕ)) (whole taken : ℕ) → 0 + whole ≡ taken + length now
    → StopsInLine (Some now) left ⊎ IsTooLong (Some now) taken → whole < 2 ^ 63 - 1 → AreLeft left (cut_lines now)
left_behind now left whole taken k stopped short = grind arith

-- the input failed in a line, or is too long
pub input_stops : {A : Type 0} (r : Result A AnswerFault) (e : InputLineFault) (now left : Option (List ℕ))
    (old new taken : ℕ) → IsErrAnd r (λ f. f ≡ fault_of_line e) → r ≡ Err fault.Input
    → (◌≡◌ {A = Result Bool InputLineFault} (Err e) (Err input.Read) → StopsInLine now left)
    → IsInputLineFault e old new now taken → StopsInLine now left ⊎ IsTooLong now taken
input_stops r x1 now left old new taken from is stops counts = grind (arith, err_from_is_err_and)

-- ---- their replies

module _ (limit : ℕ) (IsReply : List ℕ → List ℕ → Type 0) where
  -- so many lines were answered, and these bytes of the input are left
  pub record RepliedSoFar (input now : Option (List ℕ)) (count : ℕ) (old new : Option (List ℕ)) : Type 0 where
    pub done : List (List ℕ)
    pub texts : List (List ℕ)
    pub taken : AreTaken input now done
    pub counted : count ≡ length done
    pub each : AllZip (IsMarkedReply limit IsReply) done texts
    pub written : Appends old new (joined texts)

  abbrev pub replied_none : (left : Option (List ℕ)) (buffer : List ℕ) (old : Option (List ℕ)) → buffer ≡ []
      → RepliedSoFar left (prepend_known buffer left) 0 old old
  replied_none left buffer old e =
      record { done = []; texts = []; taken = grind arith; counted = refl; each = tt; written = Appends-none old }

  first_replied : (input : Option (List ℕ)) (done texts : List (List ℕ)) (old new : Option (List ℕ))
      → AreFirstLines input done → AllZip (IsMarkedReply limit IsReply) done texts
      → AppendsPrefix old new (joined texts) → RepliedToFirst limit IsReply input old new
  first_replied input done texts old new first each p = grind arith

-- what follows of it
module _ {limit : ℕ} {IsReply : List ℕ → List ℕ → Type 0} {input now : Option (List ℕ)} {count : ℕ}
    {old new : Option (List ℕ)} (s : RepliedSoFar limit IsReply input now count old new) where
  pub replied_front : RepliedToFirst limit IsReply input old new
  replied_front = grind (arith, first_replied, taken_first, whole_prefix)

  -- no line is left
  pub line_none : (after : Option (List ℕ)) (before taken : ℕ) (line : List ℕ) (found : Bool)
      → TakesLine (limit + 2) found now after line → found ≡ false → CountsTaken input now 0 before
      → CountsTaken now after before taken → taken < 2 ^ 63 - 1 → RepliedToAll limit IsReply input count old new
  line_none after before taken line found t none n k small = grind (arith, append-nil)

  -- the input failed in a line, or is too long
  pub replied_taken : (left : Option (List ℕ)) (taken : ℕ) → CountsTaken input now 0 taken
      → StopsInLine now left ⊎ IsTooLong now taken → RepliedToTaken limit IsReply input left old new
  replied_taken left taken k stopped = grind (arith, left_behind)

  -- a line more was read, and then more was written
  module _ (after last : Option (List ℕ)) (line : List ℕ) (takes : TakesLine (limit + 2) true now after line) where
    abbrev pub next : (shown : List ℕ) × AreTaken input after (s.done ++ shown ∷ [])
        × AreAlike limit (without_carriage_return line) shown
    next = taken_more limit input now after s.done line s.taken takes

    pub each_more : (text : List ℕ) → IsMarkedReply limit IsReply (without_carriage_return line) text
        → AllZip (IsMarkedReply limit IsReply) (s.done ++ next.0 ∷ []) (s.texts ++ text ∷ [])
    each_more text m = grind (arith, AllZip-push, lt-ltb, nat_lt)

    abbrev pub line_more : (text : List ℕ) × IsMarkedReply limit IsReply (without_carriage_return line) text
        × Appends new last text → RepliedSoFar limit IsReply input after (count + 1) old last
    line_more h =
        let text = Appends-join old new last (joined s.texts) h.0 s.written h.2 in
        record {
          done = s.done ++ next.0 ∷ [];
          texts = s.texts ++ h.0 ∷ [];
          taken = next.1;
          counted = grind (arith, length-append);
          each = each_more h.0 h.1;
          written = rw (joined_more s.texts h.0) text;
        }

    pub line_within : (text : List ℕ) × IsMarkedReply limit IsReply (without_carriage_return line) text
        × AppendsPrefix new last text → RepliedToFirst limit IsReply input old last
    line_within h =
        let written = prefix_after old new last (joined s.texts) h.0 s.written h.2 in
        let each = each_more h.0 h.1 in grind (arith, first_replied, taken_first, next, joined_more)

pub nothing_replied : (limit : ℕ) (IsReply : List ℕ → List ℕ → Type 0) (input old : Option (List ℕ))
    → RepliedToFirst limit IsReply input old old
nothing_replied limit IsReply input old = replied_front (replied_none limit IsReply input [] old refl)

-- ---- where each text has one reply

module _ (limit : ℕ) {IsReply : List ℕ → List ℕ → Type 0} (reply : List ℕ → List ℕ)
    (one : (text given : List ℕ) → IsReply text given → given ≡ reply text) where
  pub texts_are : (lines texts : List (List ℕ)) → AllZip (IsMarkedReply limit IsReply) lines texts → joined texts
      ≡ flat_map (marked_reply limit reply) lines
  texts_are [] texts each = grind arith
  texts_are (line ∷ lines) texts each = grind (arith, one, texts_are lines)

pub replies_one : RepliesAreOne
replies_one told lines texts each these indexes known are =
    texts_are QUERY_LIMIT (reply_of QUERY_LIMIT (collection indexes))
    (λ text given is. query_one told (query_of QUERY_LIMIT text) given is these indexes known are) lines texts each

-- ---- what sources give for the lines of an input, one after another

pub gave_none : {S : Type 0} (device : Ghosts S) (most : Amount) (texts : List (List ℕ))
    (indexes : List (List Member)) (sources : List S) → Known (map device.text sources) texts
    → AllZip (IsIndex LINE_LIMIT) texts indexes → AllGaveAtMost device most texts indexes sources sources
gave_none device most (t ∷ ts) (i ∷ is) (s ∷ ss) known are = (omega arith, gave_none device most ts is ss known.1 are.1)
gave_none device most texts indexes sources known are = grind arith

pub gave_page : {S : Type 0} (device : Ghosts S) (q : QueryValue) (all : List Member) (texts : List (List ℕ))
    (indexes : List (List Member)) (olds news : List S)
    → AllGaveWithin device (in_reach q q.resume q.limit all) texts indexes olds news
    → AllGaveAtMost device (query_most q all) texts indexes olds news
gave_page device q all (t ∷ ts) (i ∷ is) (o ∷ os) (n ∷ ns) h =
    (omega (arith, h.0), gave_page device q all ts is os ns h.1)
gave_page device q all texts indexes olds news h = grind arith

gave_more : {S : Type 0} (device : Ghosts S) (f h : Amount)
    → ((e : ℕ) (t : List ℕ) (i : List Member) → f e t i ≤ h e t i)
    → (texts : List (List ℕ)) (indexes : List (List Member)) (olds news : List S)
    → AllGaveAtMost device f texts indexes olds news → AllGaveAtMost device h texts indexes olds news
gave_more device f h fits (t ∷ ts) (i ∷ is) (o ∷ os) (n ∷ ns) a =
    (omega (arith, a.0, fits (device.extent o) t i), gave_more device f h fits ts is os ns a.1)
gave_more device f h fits texts indexes olds news a = grind arith

-- a line that means a query within the limit
pub gave_line : {S : Type 0} (device : Ghosts S) (limit : ℕ) (line : List ℕ) (q : QueryValue) (all : List Member)
    → length line ≤ limit → is_utf8 line ≡ true → query_of limit line ≡ Ok q → (texts : List (List ℕ))
    (indexes : List (List Member)) (olds news : List S)
    → AllGaveAtMost device (query_most q all) texts indexes olds news
    → AllGaveAtMost device (line_most limit all line) texts indexes olds news
gave_line device limit line q all short utf8 is =
    gave_more device (query_most q all) (line_most limit all line)
    (λ e t i.
    let within = le-ltb limit (length line) short in
    rw (within, utf8) (rw within at
    (subst (λ read. query_most q all e t i ≤ asked_most read all e t i) (sym is) (omega arith))))

gave_join : {S : Type 0} (device : Ghosts S) (f g h : Amount)
    → ((e : ℕ) (t : List ℕ) (i : List Member) → f e t i + g e t i ≤ h e t i)
    → (texts : List (List ℕ)) (indexes : List (List Member)) (olds mids news : List S)
    → map device.extent mids ≡ map device.extent olds → AllGaveAtMost device f texts indexes olds mids
    → AllGaveAtMost device g texts indexes mids news → AllGaveAtMost device h texts indexes olds news
gave_join device f g h fits (t ∷ ts) (i ∷ is) (o ∷ os) (m ∷ ms) (n ∷ ns) same a b =
    grind (arith, next, gave_join device f g h fits ts is os ms ns)
gave_join device f g h fits texts indexes olds mids news same a b = grind arith

-- one line more
more_sum : (f : List ℕ → ℕ) (done : List (List ℕ)) (line shown : List ℕ) → f line ≡ f shown
    → sum (map f done) + f line ≤ sum (map f (done ++ shown ∷ []))
more_sum f done line shown same = grind (arith, map-append, sum_by_push)

most_alike : (limit : ℕ) (line shown : List ℕ) → AreAlike limit line shown → (all : List Member) (e : ℕ) (t : List ℕ)
    (i : List Member) → line_most limit all line e t i ≡ line_most limit all shown e t i
most_alike limit line shown same all e t i = grind (arith, lt-ltb, nat_lt)

-- ---- the lines so far

-- The lines that were answered, what was written of their replies, and what the sources gave
pub record Spent {S : Type 0} (device : Ghosts S) (limit : ℕ) (IsReply : List ℕ → List ℕ → Type 0)
    (input now : Option (List ℕ)) (count : ℕ) (old new : Option (List ℕ)) (olds news : List S) : Type 0 where
  pub so_far : RepliedSoFar limit IsReply input now count old new
  pub within : OverIndexes (map device.text olds) (λ texts indexes.
      AllGaveAtMost device (lines_most limit (collection indexes) so_far.done) texts indexes olds news)

pub spent_none : {S : Type 0} (device : Ghosts S) (limit : ℕ) (IsReply : List ℕ → List ℕ → Type 0)
    (input : Option (List ℕ)) (buffer : List ℕ) (old : Option (List ℕ)) (sources : List S) → buffer ≡ []
    → Spent device limit IsReply input (prepend_known buffer input) 0 old old sources sources
spent_none device limit IsReply input buffer old sources e = record {
  so_far = replied_none limit IsReply input buffer old e;
  within = λ texts indexes known are. gave_none device (lines_most limit (collection indexes) []) texts indexes sources known are;
}

module _ {S : Type 0} {device : Ghosts S} {limit : ℕ} {IsReply : List ℕ → List ℕ → Type 0}
    {input now : Option (List ℕ)} {count : ℕ} {old new : Option (List ℕ)} {olds mids : List S}
    (s : Spent device limit IsReply input now count old new olds mids) where
  -- no line was read
  pub spent_stop : OverIndexes (map device.text olds) (λ texts indexes.
      GaveForLines device limit IsReply input texts indexes old new olds mids)
  spent_stop texts indexes known are = record {
    answered = s.so_far.done;
    next = [];
    one = omega arith;
    first = rw append-nil (taken_first input now s.so_far.done s.so_far.taken);
    replies = s.so_far.texts;
    each = s.so_far.each;
    wrote = record { middle = new; front = s.so_far.written; grows = grows_not new };
    within = rw append-nil (s.within texts indexes known are);
  }

  -- a line was read, and what the sources gave then
  module _ (after last : Option (List ℕ)) (line : List ℕ) (news : List S)
      (takes : TakesLine (limit + 2) true now after line) (same : map device.extent mids ≡ map device.extent olds)
      (gives : OverIndexes (map device.text olds) (λ texts indexes.
      AllGaveAtMost device (line_most limit (collection indexes) (without_carriage_return line)) texts indexes mids news))
    where
      abbrev more : (shown : List ℕ) × AreTaken input after (s.so_far.done ++ shown ∷ [])
          × AreAlike limit (without_carriage_return line) shown
      more = next s.so_far after last line takes

      more_within : OverIndexes (map device.text olds) (λ texts indexes.
          AllGaveAtMost device (lines_most limit (collection indexes) (s.so_far.done ++ more.0 ∷ [])) texts indexes olds news)
      more_within texts indexes known are =
          let all = collection indexes in
          gave_join device (lines_most limit all s.so_far.done)
          (line_most limit all (without_carriage_return line)) (lines_most limit all (s.so_far.done ++ more.0 ∷ []))
          (λ e t i. more_sum (λ l. line_most limit all l e t i) s.so_far.done (without_carriage_return line) more.0
          (most_alike limit (without_carriage_return line) more.0 more.2 all e t i)) texts indexes olds mids news same
          (s.within texts indexes known are) (gives texts indexes known are)

      -- its reply was written
      pub spent_more : (text : List ℕ) × IsMarkedReply limit IsReply (without_carriage_return line) text
          × Appends new last text → Spent device limit IsReply input after (count + 1) old last olds news
      spent_more h = record { so_far = line_more s.so_far after last line takes h; within = more_within }

      -- its reply ended in a fault
      pub spent_within : (text : List ℕ) × AppendsPrefix new last text
          → OverIndexes (map device.text olds) (λ texts indexes.
          GaveForLines device limit IsReply input texts indexes old last olds news)
      spent_within (text, written) texts indexes known are = record {
        answered = s.so_far.done;
        next = more.0 ∷ [];
        one = omega arith;
        first = taken_first input after (s.so_far.done ++ more.0 ∷ []) more.1;
        replies = s.so_far.texts;
        each = s.so_far.each;
        wrote = record { middle = new; front = s.so_far.written; grows = grows_part _ _ _ written };
        within = more_within texts indexes known are;
      }

-- nothing was read
pub nothing_spent : {S : Type 0} (device : Ghosts S) (limit : ℕ) (IsReply : List ℕ → List ℕ → Type 0)
    (input old : Option (List ℕ)) (sources : List S) → OverIndexes (map device.text sources) (λ texts indexes.
    GaveForLines device limit IsReply input texts indexes old old sources sources)
nothing_spent device limit IsReply input old sources =
    spent_stop (spent_none device limit IsReply input [] old sources refl)

-- ---- what the calls cite

pub ruleset query_rules = (fault_reply, gave_page)

pub ruleset line_rules = (line_tests, writes_some, gave_line, gave_none, wrote_nothing)

pub ruleset serve_rules = (nothing_replied, err_from_is_err_and)
