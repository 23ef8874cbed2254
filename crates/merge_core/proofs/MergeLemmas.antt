-- The steps of a merge: how a group is gathered, and what one group more makes of it.
use Rattle.merge_core.proofs.GroupLemmas.{AreAt, AreBelow, each_permuted, filter_all, filter_none, from_popped}
use Rattle.merge_core.proofs.{GroupLemmas.source_more, OpenLemmas.none_done, SourceLemmas.all_kept}
use Rattle.merge_core.proofs.Words.{[], ℕ, ◌++◌, ◌+◌, ◌<◌, ◌∙◌, ◌∷◌, ◌≡◌, ◌≤◌, Aligned, Alike, AllByRecursion, AllMoved}
use Rattle.merge_core.proofs.Words.{AllZip-long, AreSettled, Below, Bool, BrokenMerge, EachDone, Gathered, Ghosts}
use Rattle.merge_core.proofs.Words.{Grouped, Grows, HaltedGroup, HaltedMerge, HasEntry, IsAbove, IsDueAt, IsErrAnd}
use Rattle.merge_core.proofs.Words.{IsFrom, IsLower, IsPermutation, IsSettled, IsUpto, Known, Less, List, MatchResult}
use Rattle.merge_core.proofs.Words.{Member, MergeInput, MergePoint, MergeState, None, NoneBefore, NoneBelow, Option}
use Rattle.merge_core.proofs.Words.{Ordering, OverTexts, Pair, Reached, Ready, Result, Rises, SoFar, Some, StillWants}
use Rattle.merge_core.proofs.Words.{TookOf, WaitingLine, all_done, append-nil, append_assoc, arith, done, drop}
use Rattle.merge_core.proofs.Words.{each_join, each_rising, each_weaker, flat_map, get_or, get_or-map, get_or-set_same}
use Rattle.merge_core.proofs.Words.{inputs, is_gt, is_low, is_lt, length, length-map, length_permutation, lines, map}
use Rattle.merge_core.proofs.Words.{member_pair, member_place, place_cmp, place_cmp_total, rises_rising, rising}
use Rattle.merge_core.proofs.Words.{rising_split, set, set-get_or, set-set, sym, to_come, true, waiting_pair, zip}
use Rattle.merge_core.proofs.Many.{length_zip, map_set_same, moved_still, moved_trans, zip_at, zip_set}
use Rattle.merge_core.proofs.StateLemmas.{any_of, idle, inside_sources, long_of, none_left, popped, popped_aligned}
use Rattle.merge_core.proofs.StateLemmas.{popped_due, popped_inputs, zip_get, zip_put}
use Rattle.merge_core.specs.declared.sink.Sink.{Ghosts as SinkGhosts}
use Rattle.merge_core.proofs.PairOrder.{below_then, below_upto, from_not_below, same_from, same_upto, then_below}

-- ---- the steps of a group's gathering

-- what was taken of a text
abbrev of : (List ℕ → Bool) → List ℕ × MergeInput → List Member
of past x = done past x.0 x.1

-- the text of a source
text_of : {S : Type 0} (text : S → Option (List ℕ)) (ss : List S) (texts : List (List ℕ)) (i : ℕ) (s : S)
    → Known (map text ss) texts → i < length ss → text (get_or ss i s) ≡ Some (get_or texts i [])
text_of text ss texts i s known inside =
    rw (get_or-map text ss i s (text s) inside) at (zip_get (λ told t. told ≡ Some t) (map text ss)
    texts i (text s) [] known
    (rw length-map inside))

module _ (past : List ℕ → Bool) {S : Type 0} (device : Ghosts S)
    (ss0 : List S) (m0 : MergeState) (pair : Pair) where
  -- of the first n sources the lines with the pair were taken, and the others were left alone
  pub record Gathers (n : ℕ) (ss : List S) (m : MergeState) (group : List Member) : Type 0 where
    pub aligned : Aligned past device ss m
    pub kept : map device.text ss ≡ map device.text ss0
    pub moved : AllMoved device ss0 m0 ss m
    pub each : AreAt pair group
    pub from : AllByRecursion (IsFrom pair n) m.queue
    pub gathered : OverTexts (map device.text ss0) (λ texts. AreBelow pair (all_done past texts (inputs m0))
        → Gathered pair (all_done past texts (inputs m0)) (all_done past texts (inputs m)) [] group
        × AreBelow pair (flat_map (of past) (drop n (zip texts (inputs m)))))

  pub gathers_start : Aligned past device ss0 m0 → NoneBelow pair m0.queue → Gathers 0 ss0 m0 []
  gathers_start aligned least = grind (arith, moved_still, each_weaker, is_lt, filter_all, filter_none, below_upto)

module _ {n : ℕ} {past : List ℕ → Bool} {S : Type 0} {device : Ghosts S}
    {ss0 ss : List S} {m0 m : MergeState} {pair : Pair} {group : List Member}
    (h : Gathers past device ss0 m0 pair n ss m group) where
  long : length ss ≡ length (inputs m)
  long = long_of h.aligned

  -- more lines of a source are taken: of the group, all but those that lead are lines that the source is asked for
  pub gathers_on : {i : ℕ} {ss' : List S} {m' : MergeState} (lead : List Member) {lines lines' : List Member}
      → group ≡ lead ++ lines → TookOf past device.text pair i ss ss' (inputs m) (inputs m') lines lines' → n ≤ i + 1
      → i < length ss → Aligned past device ss' m' → AllMoved device ss m ss' m'
      → AllByRecursion (IsFrom pair (i + 1)) m'.queue → Gathers past device ss0 m0 pair (i + 1) ss' m' (lead ++ lines')
  gathers_on {i = i} {ss' = ss'} {m' = m'} lead {lines = lines} {lines' = lines'} is d turn inside aligned moved from = record {
    aligned = aligned;
    kept = rw d.source_is (map_set_same device.text ss i d.source d.source inside (d.text_is d.source) ∙ h.kept);
    moved = grind (arith, moved_trans);
    each = grind (arith, append_assoc, each_join);
    from = from;
    gathered = λ texts known low.
        let f = d.input in let was = h.gathered texts known low in
        let t = get_or texts i [] in
        let known_now : Known (map device.text ss) texts = rw h.kept known in
        let many : length texts ≡ length ss = grind (arith, AllZip-long, length-map) in
        let more = d.done_is f t (d.text_is d.source ∙ text_of device.text ss texts i d.source known_now inside) in
        let now : zip texts (inputs m') ≡ set (zip texts (inputs m)) i (t, f) =
        rw d.inputs_are (rw (set-get_or texts i []) at (zip_set texts (inputs m) i t f)) in
        let here = zip_at texts (inputs m) i [] f (many ∙ long) (omega arith) in
        let all = length_zip texts (inputs m) (many ∙ long) in
        rw (now, d.rest_is, ← append_assoc lead lines d.taken, ← is) (source_more pair (of past)
        (zip texts (inputs m)) n i ([], f) (t, f) (all_done past texts (inputs m0)) group d.taken turn (omega arith)
        (rw here more) d.alike was.0 was.1);
  }

  -- the next line is taken out, and its source's next line is to be read
  module _ (w : WaitingLine) where
    pub record TakenNext (m' : MergeState) : Type 0 where
      pub gathers : Gathers past device ss0 m0 pair (w.source + 1) ss m' (group ++ w.member ∷ [])
      pub inside : w.source < length ss
      pub due : IsDueAt past device.text pair w.source ss m'
      pub settled : AreSettled past device ss (inputs m) → (s : S) (f : MergeInput) → IsSettled past (device.text s) f
          → AreSettled past device (set ss w.source s) (set (inputs m') w.source f)
      pub fewer : to_come device.extent ss m' < to_come device.extent ss m

    pub taken_next : (m' : MergeState) → m'.cursors.items ≡ m.cursors.items → IsPermutation m.queue (w ∷ m'.queue)
        → NoneBefore w m'.queue → Alike (waiting_pair w) pair → TakenNext m'
    taken_next m' cursors p first at =
        let i = w.source in let fs = inputs m in
        let inside = inside_sources m' h.aligned cursors p in
        let b : MergeInput = any_of fs i (let l = long in omega arith) in
        let f = idle (get_or fs i b) in let now = popped_inputs m' h.aligned cursors p b in
        let many = length_permutation m.queue (w ∷ m'.queue) p in
        let from = from_popped pair w m'.queue at first (none_left m' h.aligned cursors p) in
        let turn = (each_permuted (IsFrom pair n) m.queue (w ∷ m'.queue) p h.from).0.1 at in
        record {
          gathers = gathers_on {ss' = ss} {m' = m'} group {lines = []} {lines' = w.member ∷ []} (sym (append-nil group))
              (popped m' h.aligned cursors p {group = []} b at)
              (omega arith) inside (popped_aligned m' h.aligned cursors p) (rw cursors (moved_still device _)) from;
          inside = inside;
          due = λ x d.
              let l = long in
              rw (now, get_or-set_same fs i f d (omega arith)) (popped_due m' h.aligned cursors p x b at);
          settled = grind (arith, set-set, zip_put);
          fewer = grind arith;
        }

-- ---- one group more of a merge

-- where there is no bound, all stand above it
pub above_none : (ws : List WaitingLine) → AllByRecursion (λ w. IsAbove None (waiting_pair w)) ws
above_none [] = tt
above_none (w ∷ ws) = (tt, above_none ws)

-- before the first group
pub reached_none : {S : Type 0} {device : Ghosts S} {past : List ℕ → Bool} {ss : List S} {m : MergeState}
    → Ready past device ss m → EachDone past device.text (λ ms. ms ≡ []) ss (inputs m)
    → Reached past device ss m ss m None []
reached_none {device = device} {past = past} {ss = ss} {m = m} ready fresh =
    let none = none_done past device.text ss (inputs m) in grind (arith, moved_still, above_none)

-- where nothing was read, and where more was
pub ruleset step_rules = (reached_none, moved_still, moved_trans, all_kept)

-- what is done stands below what comes next
pub below_next : (b : Option Pair) (pair : Pair) → IsAbove b pair → (ms : List Member)
    → AllByRecursion (λ m. IsUpto b (member_pair m)) ms → AreBelow pair ms
below_next None pair up ms h = grind (arith, each_weaker)
below_next (Some bound) pair up ms h = each_weaker (λ m q. then_below (member_pair m) bound pair q up) ms h

pub place_below : (x y : Member) → Below (member_pair x) (member_pair y) → place_cmp (member_place x) (member_place y)
    ≡ Less
place_below x y h = grind arith

pub is_less : (r : Ordering) → is_lt r ≡ true → r ≡ Less
is_less r e = grind arith

pub lower_by_pair : (pair : Pair) → IsLower member_place place_cmp (is_low pair)
lower_by_pair pair x y h k = place_below x y
    (below_then (member_pair x) pair (member_pair y) (is_less _ h) (from_not_below (member_pair y) pair k))

risen_on : (pair : Pair) (old now group : List Member) → Gathered pair old now [] group
    → rising member_place place_cmp old ++ rising member_place place_cmp group ≡ rising member_place place_cmp now
risen_on pair old now group h =
    cc (rising_split member_place place_cmp place_cmp_total (is_low pair) (lower_by_pair pair) now)

-- lists that rise, the one below the other
rises_join : (us vs : List Member) → Rises member_place place_cmp us → Rises member_place place_cmp vs
    → AllByRecursion (λ u. AllByRecursion (λ v. is_gt (place_cmp (member_place v) (member_place u)) ≡ true) vs) us
    → Rises member_place place_cmp (us ++ vs)
rises_join [] vs h k l = k
rises_join (u ∷ us) vs h k l = grind (arith, each_join, is_gt, rises_join us vs h.1 k l.1)

place_above : (pair : Pair) (u v : Member) → Below (member_pair u) pair → Alike (member_pair v) pair
    → is_gt (place_cmp (member_place v) (member_place u)) ≡ true
place_above pair u v h k =
    let turned = place_cmp_total.antisymm (member_place v) (member_place u) in
    let below = place_below u v (below_then (member_pair u) pair (member_pair v) h (same_from _ pair k)) in
    grind arith

module _ {S : Type 0} {device : Ghosts S} {past : List ℕ → Bool}
    {old ss0 ss : List S} {begun m0 m : MergeState} {b : Option Pair} {pair : Pair} {taken group : List Member}
    (was : Reached past device old begun ss0 m0 b taken)
    (grouped : Grouped past device ss0 m0 ss m pair group) where
  low : AreBelow pair taken
  low = below_next b pair (grouped.above b was.above) taken was.handed.upto

  at : AreAt pair (rising member_place place_cmp group)
  at = grind (arith, each_rising, place_cmp_total)

  pub gathered_now : OverTexts (map device.text old) (λ texts.
      Gathered pair (all_done past texts (inputs m0)) (all_done past texts (inputs m)) [] group)
  gathered_now texts known = grouped.gathered texts (rw (← was.kept.0) at known)
      (below_next b pair (grouped.above b was.above) _ (was.handed.told texts known).1)

  pub reached_next : Ready past device ss m → AllMoved device ss0 m0 ss m → AllByRecursion HasEntry group
      → Reached past device old begun ss m (Some pair) (taken ++ rising member_place place_cmp group)
  reached_next ready moved entries =
      let long : length ss ≡ length ss0 = grind (arith, AllZip-long, length_zip) in
      let kept = all_kept device ss0 ss _ _ was.ready.aligned.same long moved in
      record {
        ready = ready;
        kept = grind arith;
        moved = grind (arith, moved_trans);
        above = grouped.later;
        handed = record {
          entries = grind (arith, each_join, each_rising, place_cmp_total);
          upto = grind (arith, each_join, each_weaker, below_upto, low, same_upto, at);
          rises = grind (arith, rises_join, rises_rising, place_cmp_total, each_weaker, place_above, at, low);
          told = grind (arith, gathered_now, risen_on);
        };
      }

-- a merge that differs in its buffers alone
pub reached_same : {S : Type 0} {device : Ghosts S} {past : List ℕ → Bool}
    {old ss : List S} {begun m : MergeState} {b : Option Pair} {taken : List Member} (m' : MergeState)
    → m' ≡ record m { buffers = m'.buffers; most_lines = m'.most_lines }
    → Reached past device old begun ss m b taken
    → Reached past device old begun ss m' b taken
reached_same m' is was = let aligned = was.ready.aligned in rw is (grind arith)

-- these lines were passed on, when a fault came
module _ {K S : Type 0} {consumer : SinkGhosts K} {past : List ℕ → Bool} {device : Ghosts S}
    {before point : MergePoint S K} (so_far : SoFar consumer past device before point) where
  pub broken_there : (written : Option (List ℕ)) → written ≡ point.written
      → BrokenMerge consumer past device before written
  broken_there written same = record {
    sources = point.sources;
    merge = point.merge;
    bound = so_far.bound;
    taken = so_far.taken;
    reached = so_far.reached;
    wrote = grind arith;
  }

  pub halted_there : (now : MergePoint S K) → StillWants consumer past device before point.sink
      → HaltedGroup past device.text point.sources point.merge now.sources now.merge
      → Grows point.written now.written → HaltedMerge consumer past device before now
  halted_there now more halted grows =
      let reached = so_far.reached in
      let above = halted.above so_far.bound reached.above in record {
        point = point;
        so_far = so_far;
        more = more;
        grows = grows;
        next = halted.pair;
        above = above;
        least = halted.least;
        read = λ texts known. halted.read texts (rw (← reached.kept.0) at known)
            (below_next so_far.bound halted.pair above _ (reached.handed.told texts known).1);
      }

pub on_fault : {A E : Type 0} (r : Result A E) (e : E) (P : A → Type 0) (Q : Type 0) → IsErrAnd r (λ x. x ≡ e) → Q
    → MatchResult r P (λ _. Q)
on_fault r e P Q h q = grind arith
