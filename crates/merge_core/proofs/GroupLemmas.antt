-- The lines that wait: whose turn comes first, and the lines of one pair, taken of one source after another.
use Rattle.merge_core.proofs.Words.{[], ℕ, ◌++◌, ◌+◌, ◌-◌, ◌<◌, ◌∙◌, ◌∷◌, ◌≡◌, ◌≢◌, ◌≤◌, Alike, All-from_recursion}
use Rattle.merge_core.proofs.Words.{All-permutation, AllBeyond, AllByRecursion, Below, Bool, Gathered, IsFrom}
use Rattle.merge_core.proofs.Words.{IsPermutation, List, Member, NoneBefore, NoneBelow, Pair, Upto, WaitingLine, ap}
use Rattle.merge_core.proofs.Words.{append-nil, append_assoc, arith, common_steps, cond, cond-false, cond-true, drop}
use Rattle.merge_core.proofs.Words.{drop-drop, drop-set-lt, each_join, each_weaker, false, filter, filter-append}
use Rattle.merge_core.proofs.Words.{flat_map, flat_map-append, get_or, is_eq, is_lt, is_of, length, length-filter}
use Rattle.merge_core.proofs.Words.{length-map, member_pair, nil_from_length, pair_cmp, pair_cmp_total, queued}
use Rattle.merge_core.proofs.Words.{recursion_from_All, refl, set, subst, sum_by-IsPermutation, sym, take}
use Rattle.merge_core.proofs.Words.{take-append-drop, take_more, take_more_set, tied_back, true, turn_cmp, waiting_pair}
use Rattle.merge_core.proofs.Words.{waits_of}
use Rattle.merge_core.proofs.PairOrder.{below_then, below_upto, from_not_below, not_below_itself, same_from, same_upto}
use Rattle.merge_core.proofs.{Many.each_both, PairOrder.upto_upto}

pub each_permuted : {X : Type 0} (P : X → Type 0) (xs ys : List X) → IsPermutation xs ys → AllByRecursion P xs
    → AllByRecursion P ys
each_permuted P xs ys p h = recursion_from_All P ys (All-permutation P xs ys p (All-from_recursion P xs h))

-- ---- one line at most of each source

pub waits_queued : (i : ℕ) (ms : List Member) (ws : List WaitingLine) → waits_of i (queued i ms ++ ws)
    ≡ ms ++ waits_of i ws
waits_queued i [] ws = refl
waits_queued i (m ∷ ms) ws = grind (arith, waits_queued i ms ws)

pub waits_beside : (i j : ℕ) (ms : List Member) (ws : List WaitingLine) → j ≢ i
    → waits_of j (queued i ms ++ ws) ≡ waits_of j ws
waits_beside i j [] ws n = refl
waits_beside i j (m ∷ ms) ws n = grind (arith, waits_beside i j ms ws n)

module _ (P : Member → Type 0) (i : ℕ) where
  pub each_waits : (ws : List WaitingLine) → AllByRecursion (λ w. is_of i w ≡ true → P w.member) ws
      → AllByRecursion P (waits_of i ws)
  each_waits [] h = tt
  each_waits (w ∷ ws) h = grind (arith, each_waits ws h.1)

  pub waits_each : (ws : List WaitingLine) → AllByRecursion P (waits_of i ws)
      → AllByRecursion (λ w. is_of i w ≡ true → P w.member) ws
  waits_each [] h = tt
  waits_each (w ∷ ws) h = grind (arith, waits_each ws)

all_same : (us vs : List Member) → length us ≤ 1 → length vs ≡ length us
    → ((m : Member) → us ≡ m ∷ [] → AllByRecursion (λ k. k ≡ m) vs) → vs ≡ us
all_same (u ∷ []) (v ∷ []) l e h = grind arith
all_same us vs l e h = grind (arith, common_steps, nil_from_length)

-- where one of a source waits at most, their order doesn't matter
pub waits_permuted : (i : ℕ) (xs ys : List WaitingLine) → IsPermutation xs ys → length (waits_of i xs) ≤ 1
    → waits_of i ys ≡ waits_of i xs
waits_permuted i xs ys p few =
    let many = sum_by-IsPermutation (λ (w : WaitingLine). cond (is_of i w) 1 0) xs ys p in
    all_same (waits_of i xs) (waits_of i ys) few (grind (arith, length-filter, length-map))
    (λ m e. each_waits (λ k. k ≡ m) i ys
    (each_permuted (λ w. is_of i w ≡ true → w.member ≡ m) xs ys p
    (waits_each (λ k. k ≡ m) i xs (subst (AllByRecursion (λ k. k ≡ m)) (sym e) (refl, tt)))))

-- where none of a source waits, none is of it
pub none_waits : (i : ℕ) (ws : List WaitingLine) → waits_of i ws ≡ []
    → AllByRecursion (λ (w : WaitingLine). w.source ≢ i) ws
none_waits i [] e = tt
none_waits i (w ∷ ws) e = grind (arith, none_waits i ws)

-- ---- whose turn comes first

pub not_before : (v w : WaitingLine) → is_lt (turn_cmp v w) ≡ false → Upto (waiting_pair w) (waiting_pair v)
not_before v w h = from_not_below (waiting_pair v) (waiting_pair w) (grind arith)

below_unless : (p q : Pair) → Upto p q → is_eq (pair_cmp q p) ≡ false → Below p q
below_unless p q h e = grind (arith, pair_cmp_total)

-- where the first in turn doesn't have the pair, all are above it
pub all_later_unless : (p : Pair) (w : WaitingLine) (ws : List WaitingLine) → w ≡ get_or ws 0 w
    → is_eq (pair_cmp (waiting_pair w) p) ≡ false → NoneBelow p ws → NoneBefore w ws → AllBeyond p ws
all_later_unless p w [] e n u h = tt
all_later_unless p w (v ∷ ws) e n u h =
    let above = below_unless p (waiting_pair w) (grind arith) n in
    each_weaker (λ (v : WaitingLine) (q : is_lt (turn_cmp v w) ≡ false). below_then p (waiting_pair w) (waiting_pair v)
    above (not_before v w q)) (v ∷ ws) h

-- ---- the lines of one pair, taken of one source after another

abbrev pub AreAt : Pair → List Member → Type 0
AreAt pair = AllByRecursion (λ m. Alike (member_pair m) pair)

abbrev pub AreBelow : Pair → List Member → Type 0
AreBelow pair = AllByRecursion (λ m. Below (member_pair m) pair)

pub filter_none : {X : Type 0} (f : X → Bool) (xs : List X) → AllByRecursion (λ y. f y ≡ false) xs → filter f xs ≡ []
filter_none f [] h = refl
filter_none f (x ∷ xs) h = cond-false (f x) _ _ h.0 ∙ filter_none f xs h.1

pub filter_all : {X : Type 0} (f : X → Bool) (xs : List X) → AllByRecursion (λ y. f y ≡ true) xs → filter f xs ≡ xs
filter_all f [] h = refl
filter_all f (x ∷ xs) h = cond-true (f x) _ _ h.0 ∙ ap (λ l. x ∷ l) (filter_all f xs h.1)

pub each_cut : {Y : Type 0} (A : Y → Type 0) (us vs : List Y) → AllByRecursion A (us ++ vs) → AllByRecursion A us
    × AllByRecursion A vs
each_cut A [] vs h = (tt, h)
each_cut A (u ∷ us) vs h = let s = each_cut A us vs h.1 in ((h.0, s.0), s.1)

module _ (pair : Pair) where
  -- lines at the pair are taken, after which all are below it
  gathered_more : (old now later group us : List Member) → Gathered pair old (now ++ later) [] group → AreAt pair us
      → AreBelow pair later → Gathered pair old (now ++ us ++ later) [] (group ++ us)
  gathered_more old now later group us h at low =
      let parts = each_cut (λ m. Upto (member_pair m) pair) now later h.upto in
      record {
        before = grind (arith, each_weaker, filter-append, filter_none, append-nil);
        taken = grind (arith, append_assoc, append-nil, filter-append, filter_all, filter_none, each_weaker);
        upto = grind (arith, each_join, each_weaker, same_upto);
      }

  -- more lines at the pair are done of a source, and the sources after it have none
  module _ {X : Type 0} (d : X → List Member) (xs : List X) where
    cut : (k : ℕ) (ys : List X) → flat_map d ys ≡ flat_map d (take k ys) ++ flat_map d (drop k ys)
    cut k ys = ap (flat_map d) (sym (take-append-drop k ys)) ∙ flat_map-append d (take k ys) (drop k ys)

    more : (j : ℕ) (x y : X) (us : List Member) → j < length xs → d y ≡ d (get_or xs j x) ++ us
        → flat_map d (take (j + 1) (set xs j y)) ≡ flat_map d (take (j + 1) xs) ++ us
    more j x y us l e =
        rw (take_more xs j x l, take_more_set) (grind (arith, flat_map-append, append-nil, append_assoc))

    below_after : (n k : ℕ) → AreBelow pair (flat_map d (drop n xs)) → AreBelow pair (flat_map d (drop (n + k) xs))
    below_after n k low =
        let ys = drop n xs in
        rw drop-drop at (each_cut (λ m. Below (member_pair m) pair) (flat_map d (take k ys)) (flat_map d (drop k ys))
        (rw (cut k ys) at low)).1

    pub source_more : (n j : ℕ) (x y : X) (old group us : List Member) → n ≤ j + 1 → j < length xs
        → d y ≡ d (get_or xs j x) ++ us → AreAt pair us
        → Gathered pair old (flat_map d xs) [] group → AreBelow pair (flat_map d (drop n xs))
        → Gathered pair old (flat_map d (set xs j y)) [] (group ++ us)
        × AreBelow pair (flat_map d (drop (j + 1) (set xs j y)))
    source_more n j x y old group us l inside e at h low =
        let now = flat_map d (take (j + 1) xs) in let later = flat_map d (drop (j + 1) xs) in
        let k : n + (j + 1 - n) ≡ j + 1 = omega arith in
        let below : AreBelow pair later = rw k at (below_after n (j + 1 - n) low) in
        rw (cut (j + 1) (set xs j y), more j x y us inside e, drop-set-lt (j + 1) xs j y (omega arith))
        (gathered_more old now later group us (rw (cut (j + 1) xs) at h) at below, below)

-- ---- whose turn comes later

-- none of the others has the pair, save those of later sources
pub from_popped : (pair : Pair) (w : WaitingLine) (ws : List WaitingLine) → Alike (waiting_pair w) pair
    → NoneBefore w ws → waits_of w.source ws ≡ [] → AllByRecursion (IsFrom pair (w.source + 1)) ws
from_popped pair w ws e first none =
    each_weaker (λ (v : WaitingLine) (h : (is_lt (turn_cmp v w) ≡ false) × (v.source ≢ w.source)). (
      upto_upto pair (waiting_pair w) (waiting_pair v) (same_from (waiting_pair w) pair e) (not_before v w h.0),
      λ a. (let at = pair_cmp_total.congr (waiting_pair v) pair (waiting_pair w) a
          ∙ tied_back pair_cmp_total (waiting_pair w) pair e in
          let later : w.source ≤ v.source = grind arith in let other = h.1 in omega arith),
    )) ws (each_both _ _ ws first (none_waits w.source ws none))

pub from_waited : (pair : Pair) (n i : ℕ) (waits : List Member) (old new : List WaitingLine)
    → AllByRecursion (λ m. Below pair (member_pair m)) waits → IsPermutation (queued i waits ++ old) new
    → AllByRecursion (IsFrom pair n) old → AllByRecursion (IsFrom pair n) new
from_waited pair n i waits old new later p h =
    each_permuted (IsFrom pair n) (queued i waits ++ old) new p
    (each_join (IsFrom pair n) (queued i waits) old (above waits later) h)
  where
    above : (ms : List Member) → AllByRecursion (λ m. Below pair (member_pair m)) ms
        → AllByRecursion (IsFrom pair n) (queued i ms)
    above [] h = tt
    above (m ∷ ms) h = (
      (
        below_upto pair (member_pair m) h.0,
        λ a. absurd (not_below_itself pair (member_pair m) h.0 (same_upto (member_pair m) pair a)),
      ),
      above ms h.1,
    )
