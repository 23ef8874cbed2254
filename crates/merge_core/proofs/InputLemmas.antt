-- What one line more makes of an input.
use Rattle.merge_core.proofs.Words.{[], ℕ, ◌++◌, ◌+◌, ◌-◌, ◌<◌, ◌∙◌, ◌∷◌, ◌≡◌, ◌≤◌, ◌⊎◌, Alike, AllByRecursion, Below}
use Rattle.merge_core.proofs.Words.{Bool, CursorState, EndsAt, EndsPast, FeedFault, IsInput, IsInputOf, IsNextLine}
use Rattle.merge_core.proofs.Words.{IsSettled, LINE_LIMIT, List, Member, MergeInput, NeverFalls, None, Option, Pair}
use Rattle.merge_core.proofs.Words.{Some, Stands, Upto, ap, append-nil, append_assoc, arith, done, drop, drop_all}
use Rattle.merge_core.proofs.Words.{each_join, each_weaker, false, filter, filter-append, first_length, flat_map-append}
use Rattle.merge_core.proofs.Words.{given, inl, input_of, inr, length, length-append, length-map, length-take}
use Rattle.merge_core.proofs.Words.{line_entry, lines, map, map-append, member_pair, nil_from_length, not-true}
use Rattle.merge_core.proofs.Words.{pair_cmp, pair_cmp_total, read_lines, refl, stays, suc, sym, take, take-append-drop}
use Rattle.merge_core.proofs.Words.{take_all, take_at, true}
use Rattle.std.specs.FinMap.{nat_cmp-IsAntisymmetric, slice_cmp-IsAntisymmetric}
use Rattle.cdxj_core.specs.Lines.{body_of}
use Rattle.cdxj_core.proofs.MemberLemmas.{entry_is_short, long_line_none}
use Rattle.merge_core.proofs.PairOrder.{below_then, same_from, same_upto, upto_upto}
use Rattle.source_core.specs.LinesAtFault.{IsOutOfOrder, LineBeginsAt}
use Rattle.source_core.proofs.SortedCuts.{begins_at}
use Rattle.merge_core.proofs.GroupLemmas.{filter_all}
use Rattle.merge_core.specs.LineFaults.{IsBadFirst, IsFeedFaultAt, NamesLine}

pub no_entry : (line : List ℕ) (o : Option Member) → o ≡ line_entry LINE_LIMIT line
    → LINE_LIMIT ≤ length (body_of line) → o ≡ None
no_entry line o e h = grind (arith, entry_is_short)

pub take_next : {X : Type 0} (n : ℕ) (all : List X) (x : X) (rest : List X) → drop n all ≡ x ∷ rest → take (n + 1) all
    ≡ take n all ++ x ∷ []
take_next (suc n) (y ∷ ys) x rest e = grind (arith, take_next n ys x rest e)
take_next n all x rest e = grind arith

-- what stands before the last of lines that never fall is not above it
pub falls_last : (xs : List Member) (y : Member) → NeverFalls member_pair pair_cmp (xs ++ y ∷ [])
    → AllByRecursion (λ m. Upto (member_pair m) (member_pair y)) xs
falls_last [] y h = tt
falls_last (x ∷ xs) y h = (at_end xs h.0, falls_last xs y h.1)
  where
    at_end : (us : List Member) → AllByRecursion (λ m. Upto (member_pair x) (member_pair m)) (us ++ y ∷ [])
        → Upto (member_pair x) (member_pair y)
    at_end [] a = a.0
    at_end (u ∷ us) a = at_end us a.1

-- one line more was read
pub one_more : (t : List ℕ) (was now : CursorState) (line : List ℕ) → lines (drop was.at t)
    ≡ drop was.count (lines (drop was.start t)) → now.count ≡ was.count + 1 → now.start ≡ was.start
    → lines (drop was.at t) ≡ line ∷ lines (drop now.at t) → read_lines t now ≡ read_lines t was ++ line ∷ []
one_more t was now line rest more start found = grind (arith, take_next)

pub falls_push : (xs : List Member) (y : Member) → NeverFalls member_pair pair_cmp xs
    → AllByRecursion (λ m. Upto (member_pair m) (member_pair y)) xs → NeverFalls member_pair pair_cmp (xs ++ y ∷ [])
falls_push (x ∷ xs) y h k = grind (arith, each_join, falls_push xs y h.1 k.1)
falls_push xs y h k = grind arith

-- ---- what was taken of a source

-- of lines that were read, those that were taken are the first, and one more is left at most
abbrev pub Cut : ℕ → List Member → List Member → Type 0
Cut n before all = (k : ℕ) × (k ≤ n) × (n ≤ k + 1) × (before ≡ take k all)

cut_of : (n : ℕ) (before late all : List Member) → length all ≡ n → length late ≤ 1 → all ≡ before ++ late
    → Cut n before all
cut_of n before late all long few is =
    let sum = length-append before late in let same = ap length is in
    (length before, omega arith, omega arith, rw is (sym (take_at before late (length before) refl)))

last_same : (us vs : List Member) (x y : Member) → us ++ x ∷ [] ≡ vs ++ y ∷ [] → x ≡ y
last_same [] [] x y e = grind arith
last_same (u ∷ us) (v ∷ vs) x y e = last_same us vs x y (grind arith)
last_same us vs x y e = let same = ap length e in grind (arith, length-append)

pub filter_passes : {X : Type 0} (test : X → Bool) (xs : List X) → AllByRecursion (λ x. test x ≡ true) (filter test xs)
filter_passes test [] = tt
filter_passes test (x ∷ xs) = grind (arith, filter_passes test xs)

-- which keys lie past the range
module _ (past : List ℕ → Bool) where
  pub done_within : (t : List ℕ) (f : MergeInput)
      → AllByRecursion (λ (m : Member). past m.values.key ≡ false) (done past t f)
  done_within t f = each_weaker (λ (m : Member) (e : stays past m ≡ true). not-true _ e) _ (filter_passes (stays past) _)

  -- where all lines lie within the range and none waits, all were taken
  pub done_all : (t : List ℕ) (c : CursorState) → length (read_lines t c) ≡ c.count
      → AllByRecursion (λ m. stays past m ≡ true) (given t c) → done past t (input_of c []) ≡ given t c
  done_all t c long each =
      let whole = take_all c.count (given t c) (grind (arith, length-map)) in grind (arith, filter_all)

  -- the next line of a source was read, which is this one
  pub record LineRead (text : Option (List ℕ)) (extent : ℕ) (old c : CursorState) (m : Member) : Type 0 where
    pub was : IsInput past text extent (input_of old [])
    pub inside : (t : List ℕ) → text ≡ Some t → AllByRecursion (λ m. stays past m ≡ true) (given t old)
    pub stands : Stands text extent c
    pub start : c.start ≡ old.start
    pub count : c.count ≡ old.count + 1
    pub near : (t : List ℕ) → text ≡ Some t → c.at ≤ old.at + first_length (lines (drop old.at t))
    pub next : (t : List ℕ) → text ≡ Some t → IsNextLine t old.at c.at (Some m)
    pub low : (t : List ℕ) → text ≡ Some t → AllByRecursion (λ k. Upto (member_pair k) (member_pair m)) (given t old)

pub done_cut : {past : List ℕ → Bool} {t : List ℕ} {f : MergeInput} → IsInputOf past t f
    → Cut f.cursor.count (done past t f) (given t f.cursor)
done_cut {f = f} told = cut_of f.cursor.count _ told.late _ (grind (arith, length-map)) told.one told.split

-- a text was read, and where no line of it waits, to the end of the range
pub record TextRead (past : List ℕ → Bool) (t : List ℕ) (f : MergeInput) : Type 0 where
  pub told : IsInputOf past t f
  pub rest : lines (drop f.cursor.at t) ≡ drop f.cursor.count (lines (drop f.cursor.start t))
  pub settled : f.waits ≡ [] → (lines (drop f.cursor.at t) ≡ []) ⊎ EndsPast past (given t f.cursor)

module _ {past : List ℕ → Bool} {text : Option (List ℕ)} {extent : ℕ} {old c : CursorState} {m : Member}
    (r : LineRead past text extent old c m) where
  read_more : (t : List ℕ) (e : text ≡ Some t) → read_lines t c ≡ read_lines t old ++ (r.next t e).0 ∷ []
  read_more t e = one_more t old c _ (r.was.stands.rest t e) r.count r.start (r.next t e).1

  pub given_next : (t : List ℕ) → text ≡ Some t → given t c ≡ given t old ++ m ∷ []
  given_next t e = let more = read_more t e in grind (arith, map-append)

  -- how many were read before
  as_many : (t : List ℕ) → text ≡ Some t → length (given t old) ≡ old.count
  as_many t e = let was = (r.was.told t e).as_many in grind (arith, length-map)

  front : (t : List ℕ) → text ≡ Some t → take (c.count - 1) (given t c) ≡ given t old
  front t e = grind (arith, as_many, given_next, take_at)

  whole : (t : List ℕ) → text ≡ Some t → take c.count (given t c) ≡ given t c
  whole t e = grind (arith, as_many, given_next, length-append, take_all)

  -- it waits unless it lies past the range, or it was taken
  abbrev pub Goes : List Member → Type 0
  Goes ws = (ws ≡ filter (stays past) (m ∷ []))
      ⊎ ((ws ≡ []) × ((t : List ℕ) → text ≡ Some t → stays past m ≡ true))

  pub settled_more : (ws : List Member) → ws ≡ filter (stays past) (m ∷ []) → IsSettled past text (input_of c ws)
  settled_more ws is t e none = inr (given t old, m, given_next t e, grind arith)

  pub done_next : (ws : List Member) → ws ≡ filter (stays past) (m ∷ []) → (t : List ℕ) → text ≡ Some t
      → done past t (input_of c ws) ≡ given t old
  done_next ws is t e = let whole = whole t e in grind (arith, filter_all, filter-append, append-nil, given_next, front)

  pub input_more : (ws : List Member) → Goes ws → IsInput past text extent (input_of c ws)
  input_more ws cases = record {
    stands = r.stands;
    few = grind arith;
    counted = grind arith;
    told = λ t e.
        let was = r.was.told t e in let more = read_more t e in
        let next = given_next t e in
        record {
          begins = rw r.start was.begins;
          stood = grind (arith, flat_map-append, length-append, append-nil);
          as_many = grind (arith, length-append);
          run = rw (next, more) (record {
            entries = grind (arith, map-append);
            ordered = falls_push _ m was.run.ordered (r.low t e);
          });
          late = (goes t e).0;
          split = (goes t e).1;
          one = (goes t e).2;
          waiting = (goes t e).3;
        };
  }
    where
      goes : (t : List ℕ) → text ≡ Some t → (late : List Member)
          × (given t c ≡ done past t (input_of c ws) ++ late) × (length late ≤ 1) × (ws ≡ filter (stays past) late)
      goes t e = elim cases [
        | inl is ↦ (m ∷ [], rw (done_next ws is t e) (given_next t e), omega arith, is)
        | inr k ↦
            let long = (r.was.told t e).as_many in let more = read_more t e in
            let next = given_next t e in let inside = r.inside t e in
            let stays_here = k.1 t e in
            let all = done_all past t c (grind (arith, length-append, r.count)) (grind (arith, each_join)) in
            ([], rw k.0 (rw all (sym (append-nil _))), omega arith, k.0)
      ]

-- a line that has the pair of the last one, which lies within the range, lies within it
pub same_stays : (past : List ℕ → Bool) (pair : Pair) (m : Member) (ms : List Member) → EndsAt past pair ms
    → Alike (member_pair m) pair → past m.values.key ≡ false
same_stays past pair m ms end alike = grind (arith, slice_cmp-IsAntisymmetric, nat_cmp-IsAntisymmetric, pair_cmp_total)

-- none of lines that never fall is above the last
pub low_of : (past : List ℕ → Bool) (pair : Pair) (ms : List Member) → NeverFalls member_pair pair_cmp ms
    → EndsAt past pair ms → AllByRecursion (λ k. Upto (member_pair k) pair) ms
low_of past pair ms falls end =
    let last = end.1 in let up = same_upto (member_pair last) pair end.3 in
    rw end.2 (each_join (λ k. Upto (member_pair k) pair) end.0 (last ∷ [])
    (each_weaker (λ (k : Member) (h : Upto (member_pair k) (member_pair last)). upto_upto (member_pair k) (member_pair last)
    pair h up) end.0 (falls_last end.0 last (rw end.2 at falls))) (up, tt))

-- where the last line has the pair and lies within the range, all lines were taken
module _ {past : List ℕ → Bool} {t : List ℕ} {c : CursorState} {pair : Pair}
    (told : IsInputOf past t (input_of c [])) (end : EndsAt past pair (given t c)) where
  pub all_upto : AllByRecursion (λ k. Upto (member_pair k) pair) (given t c)
  all_upto = low_of past pair (given t c) told.run.ordered end

  pub all_taken : done past t (input_of c []) ≡ given t c
  all_taken = none_late told.late told.one told.waiting told.split
    where
      none_late : (late : List Member) → length late ≤ 1 → [] ≡ filter (stays past) late
          → given t c ≡ done past t (input_of c []) ++ late → done past t (input_of c []) ≡ given t c
      none_late [] one waiting split = sym (split ∙ append-nil _)
      none_late (m ∷ ms) one waiting split =
          let none : ms ≡ [] = grind (arith, nil_from_length) in absurd (grind (arith, last_same))

  pub all_inside : AllByRecursion (λ m. stays past m ≡ true) (given t c)
  all_inside = rw (← all_taken) (filter_passes (stays past) _)

-- a source ended
pub input_end : {past : List ℕ → Bool} {text : Option (List ℕ)} {extent : ℕ} {old : CursorState}
    → IsInput past text extent (input_of old []) → (c : CursorState) → Stands text extent c → c.start ≡ old.start
    → c.count ≡ old.count → ((t : List ℕ) → text ≡ Some t → c.at ≤ old.at + first_length (lines (drop old.at t)))
    → ((t : List ℕ) → text ≡ Some t → lines (drop old.at t) ≡ []) → IsInput past text extent (input_of c [])
input_end input c stands start count near none = record {
  stands = stands;
  few = omega arith;
  counted = omega arith;
  told = λ t e. let was = input.told t e in rw (start, count) (grind arith);
}

-- ---- lines at fault, by where the cursor stands

pub first_long : (ls : List (List ℕ)) → LINE_LIMIT < first_length ls → IsBadFirst ls
first_long ls long = grind (arith, length-take, long_line_none)

-- the last of these lines has the last of these entries
last_line : (ls : List (List ℕ)) (before : List Member) (last : Member) → map (line_entry LINE_LIMIT) ls
    ≡ map Some (before ++ last ∷ [])
    → (us : List (List ℕ)) × (line : List ℕ) × (ls ≡ us ++ line ∷ []) × (line_entry LINE_LIMIT line ≡ Some last)
last_line [] [] last e = absurd (cc)
last_line (l ∷ ls) (m ∷ before) last e =
    let rest = last_line ls before last (grind arith) in (l ∷ rest.0, rest.1, cc, rest.3)
last_line (l ∷ []) [] last e = ([], l, refl, grind arith)
last_line ls before last e = absurd (cc)

module _ {past : List ℕ → Bool} {t : List ℕ} {extent : ℕ} {f : MergeInput}
    (input : IsInput past (Some t) extent f) where
  -- the line at which the cursor stands, after those before it
  begins_here : (line : List ℕ) (after : List (List ℕ)) → lines (drop f.cursor.at t) ≡ line ∷ after
      → LineBeginsAt t f.cursor.at ((input.told t refl).begins.0 ++ read_lines t f.cursor) line
  begins_here line after e =
      let told = input.told t refl in
      let cut : lines t ≡ (told.begins.0 ++ read_lines t f.cursor) ++ lines (drop f.cursor.at t) =
      grind (arith, take-append-drop, append_assoc) in
      grind (arith, begins_at, drop_all)

  pub bad_named : (e : FeedFault) → IsFeedFaultAt (lines (drop f.cursor.at t)) f.cursor.at e → NamesLine t e
  bad_named e h = grind (arith, begins_here)

  -- the next line has a pair below that of the last line before it
  pub order_named : (pair : Pair) (new : CursorState) (m : Member) → EndsAt past pair (given t f.cursor)
      → IsNextLine t f.cursor.at new.at (Some m) → Below (member_pair m) pair → IsOutOfOrder LINE_LIMIT t f.cursor.at
  order_named pair new m end next below =
      let told = input.told t refl in
      let last = last_line (read_lines t f.cursor) end.0 end.1 (grind arith) in
      let turned = pair_cmp_total.antisymm (member_pair end.1) (member_pair m) in
      let lower = below_then (member_pair m) pair (member_pair end.1) below (same_from (member_pair end.1) pair end.3) in
      let here = begins_here next.0 (lines (drop new.at t)) next.1 in
      record {
        before = told.begins.0 ++ last.0;
        previous = last.1;
        line = next.0;
        begins = grind (arith, append_assoc);
        earlier = end.1;
        later = m;
        earlier_is = last.3;
        later_is = next.2;
        falls = grind arith;
      }
