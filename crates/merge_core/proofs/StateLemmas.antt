-- Sources and the inputs of a merge, while lines wait.
use Rattle.merge_core.proofs.Words.{[], ℕ, ◌++◌, ◌+◌, ◌<◌, ◌∙◌, ◌∷◌, ◌≡◌, ◌≢◌, ◌≤◌, Aligned, Alike, AllByRecursion}
use Rattle.merge_core.proofs.Words.{AllZip, Bool, CursorState, Ghosts, IsDue, IsInput, IsPermutation, List, Member}
use Rattle.merge_core.proofs.Words.{MergeInput, MergeState, Option, Pair, Some, TookOf, WaitingLine, ap, append-nil}
use Rattle.merge_core.proofs.Words.{arith, cases_lt, done, each_join, each_weaker, filter, filter-append, get_or}
use Rattle.merge_core.proofs.Words.{get_or_default, given, inl, input_of, inputs, inputs_from, inr, length}
use Rattle.merge_core.proofs.Words.{length-append, length-map, length-set, length_permutation, map, nil_from_length}
use Rattle.merge_core.proofs.Words.{not-true, queued, refl, set, set-get_or, stays, suc, sym, take_all, true}
use Rattle.merge_core.proofs.Words.{waiting_pair, waits_of, zero}
use Rattle.merge_core.proofs.InputLemmas.{filter_passes}
use Rattle.merge_core.proofs.GroupLemmas.{each_permuted, filter_all, waits_beside, waits_permuted, waits_queued}

pub any_of : {X : Type 0} (xs : List X) (i : ℕ) → i < length xs → X
any_of [] i l = absurd (omega arith)
any_of (x ∷ xs) i l = x

-- ---- lists beside each other

pub zip_get : {A B : Type 0} (R : A → B → Type 0) (xs : List A) (ys : List B) (i : ℕ) (a : A) (b : B) → AllZip R xs ys
    → i < length xs → R (get_or xs i a) (get_or ys i b)
zip_get R (x ∷ xs) (y ∷ ys) (suc i) a b h l = zip_get R xs ys i a b h.1 (omega arith)
zip_get R xs ys i a b h l = grind arith

pub zip_put : {A B : Type 0} (R : A → B → Type 0) (xs : List A) (ys : List B) (i : ℕ) (x : A) (y : B) → AllZip R xs ys
    → R x y → AllZip R (set xs i x) (set ys i y)
zip_put R (a ∷ xs) (b ∷ ys) (suc i) x y h r = (h.0, zip_put R xs ys i x y h.1 r)
zip_put R xs ys i x y h r = grind arith

-- ---- the inputs

pub inputs_long : (n : ℕ) (cs : List CursorState) (ws : List WaitingLine) → length (inputs_from n cs ws) ≡ length cs
inputs_long n [] ws = refl
inputs_long n (c ∷ cs) ws = let h = inputs_long (n + 1) cs ws in omega arith

pub cursors_of : (n : ℕ) (cs : List CursorState) (ws : List WaitingLine)
    → map (λ (f : MergeInput). f.cursor) (inputs_from n cs ws) ≡ cs
cursors_of n [] ws = refl
cursors_of n (c ∷ cs) ws = ap (λ l. c ∷ l) (cursors_of (n + 1) cs ws)

inputs_at : (n i m : ℕ) (cs : List CursorState) (ws : List WaitingLine) (c : CursorState) (b : MergeInput) → m ≡ n + i
    → i < length cs → get_or (inputs_from n cs ws) i b ≡ input_of (get_or cs i c) (waits_of m ws)
inputs_at n zero m (x ∷ cs) ws c b e l = grind arith
inputs_at n (suc i) m (x ∷ cs) ws c b e l = inputs_at (n + 1) i m cs ws c b (omega arith) (omega arith)
inputs_at n i m [] ws c b e l = absurd (omega arith)

-- where the waiting lines of these sources stay the same
inputs_same : (n : ℕ) (cs : List CursorState) (ws ws' : List WaitingLine)
    → ((j : ℕ) → n ≤ j → j < n + length cs → waits_of j ws' ≡ waits_of j ws) → inputs_from n cs ws' ≡ inputs_from n cs ws
inputs_same n [] ws ws' same = refl
inputs_same n (c ∷ cs) ws ws' same = grind (arith, inputs_same (n + 1) cs ws ws')

inputs_set : (n i m : ℕ) (cs : List CursorState) (ws ws' : List WaitingLine) (c : CursorState) → m ≡ n + i
    → ((j : ℕ) → j ≢ m → waits_of j ws' ≡ waits_of j ws)
    → inputs_from n (set cs i c) ws' ≡ set (inputs_from n cs ws) i (input_of c (waits_of m ws'))
inputs_set n zero m (x ∷ cs) ws ws' c e same = grind (arith, inputs_same)
inputs_set n (suc i) m (x ∷ cs) ws ws' c e same = grind (arith, inputs_set (n + 1) i m cs ws ws' c (omega arith) same)
inputs_set n i m [] ws ws' c e same = refl

inputs_push : (n : ℕ) (cs : List CursorState) (ws : List WaitingLine) (c : CursorState)
    → inputs_from n (cs ++ c ∷ []) ws ≡ inputs_from n cs ws ++ input_of c (waits_of (n + length cs) ws) ∷ []
inputs_push n [] ws c = let e : n ≡ n + 0 = omega arith in rw (← e) refl
inputs_push n (x ∷ cs) ws c = grind (arith, inputs_push (n + 1) cs ws c)

-- none of a later source waits
waits_none : (n : ℕ) (ws : List WaitingLine) → AllByRecursion (λ (w : WaitingLine). w.source < n) ws → waits_of n ws
    ≡ []
waits_none n [] h = refl
waits_none n (w ∷ ws) h = grind (arith, waits_none n ws h.1)

pub placed_queued : (n i : ℕ) (ws ws' : List WaitingLine) (new : List Member) → i < n
    → AllByRecursion (λ (w : WaitingLine). w.source < n) ws → IsPermutation (queued i new ++ ws) ws'
    → AllByRecursion (λ (w : WaitingLine). w.source < n) ws'
placed_queued n i ws ws' new l placed p =
    each_permuted (λ (w : WaitingLine). w.source < n) (queued i new ++ ws) ws' p
    (each_join (λ (w : WaitingLine). w.source < n) (queued i new) ws (each new) placed)
  where
    each : (ms : List Member) → AllByRecursion (λ (w : WaitingLine). w.source < n) (queued i ms)
    each [] = tt
    each (m ∷ ms) = (l, each ms)

-- ---- one source, of which a line waits

-- none of its lines waits
abbrev pub idle : MergeInput → MergeInput
idle f = input_of f.cursor []

module _ {past : List ℕ → Bool} {text : Option (List ℕ)} {extent : ℕ} {f : MergeInput} {m : Member}
    (input : IsInput past text extent f) (one : f.waits ≡ m ∷ []) where
  module _ (t : List ℕ) (e : text ≡ Some t) where
    its_last : (given t f.cursor ≡ done past t f ++ m ∷ []) × (stays past m ≡ true)
    its_last = let told = input.told t e in alone told.late told.one (sym one ∙ told.waiting) told.split
      where
        alone : (late : List Member) → length late ≤ 1 → m ∷ [] ≡ filter (stays past) late
            → given t f.cursor ≡ done past t f ++ late
            → (given t f.cursor ≡ done past t f ++ m ∷ []) × (stays past m ≡ true)
        alone (k ∷ []) few waiting split = grind arith
        alone late few waiting split = grind (arith, nil_from_length)

    -- then it counts as taken
    done_idle : done past t (idle f) ≡ done past t f ++ m ∷ []
    done_idle =
        let whole = take_all f.cursor.count (given t f.cursor)
        (let long = (input.told t e).as_many in grind (arith, length-map)) in
        grind (arith, filter-append, its_last, filter_all, filter_passes)

  input_idle : IsInput past text extent (idle f)
  input_idle = record {
    stands = input.stands;
    few = omega arith;
    counted = omega arith;
    told = λ t e.
        let was = input.told t e in
        let split : given t f.cursor ≡ done past t (idle f) ++ [] =
        rw (done_idle t e) ((its_last t e).0 ∙ sym (append-nil _)) in
        grind arith;
  }

-- ---- all sources

module _ {past : List ℕ → Bool} {S : Type 0} {device : Ghosts S} {ss : List S}
    {m : MergeState} (was : Aligned past device ss m) where
  pub long_of : length ss ≡ length (inputs m)
  long_of = let same = was.same in grind (arith, inputs_long)

  pub input_at : (i : ℕ) (a : S) (b : MergeInput) → i < length ss
      → IsInput past (device.text (get_or ss i a)) (device.extent (get_or ss i a)) (get_or (inputs m) i b)
  input_at i a b l = zip_get (λ s f. IsInput past (device.text s) (device.extent s) f) ss (inputs m) i a b was.input l

  pub waits_at : (i : ℕ) (b : MergeInput) → i < length ss → (get_or (inputs m) i b).waits ≡ waits_of i m.queue
  waits_at i b l =
      let c = any_of m.cursors.items i (omega arith) in
      ap (λ (f : MergeInput). f.waits) (inputs_at 0 i i m.cursors.items m.queue c b (omega arith) (omega arith))

  -- at most one line of each source waits
  pub few_wait : (i : ℕ) → length (waits_of i m.queue) ≤ 1
  few_wait i = elim (cases_lt i (length ss)) [
    | inl l ↦
        let b : MergeInput = input_of (any_of m.cursors.items i (let same = was.same in omega arith)) [] in
        rw (waits_at i b l) at (input_at i (any_of ss i l) b l).few
    | inr l ↦
        let none = waits_none i m.queue
        (each_weaker (λ (w : WaitingLine) (h : w.source < length m.cursors.items). let same = was.same in omega arith) m.queue was.placed) in
        omega (arith, ap length none)
  ]

  -- these lines of a source wait now, of which none waited
  module _ (i : ℕ) (none : waits_of i m.queue ≡ []) (new : List Member) (most : length new ≤ 1) (queue : List WaitingLine)
      (p : IsPermutation (queued i new ++ m.queue) queue) where
    queued_here : waits_of i queue ≡ new
    queued_here =
        let is : waits_of i (queued i new ++ m.queue) ≡ new = rw (waits_queued i new m.queue, none) (append-nil new) in
        grind (arith, waits_permuted)

    queued_beside : (j : ℕ) → j ≢ i → waits_of j queue ≡ waits_of j m.queue
    queued_beside j other = let is = waits_beside i j new m.queue other in grind (arith, few_wait, waits_permuted)

  -- a source is added behind the others, and these lines of it wait
  pub inputs_added : (c : CursorState) (new : List Member) (queue : List WaitingLine) → length new ≤ 1
      → IsPermutation (queued (length m.cursors.items) new ++ m.queue) queue
      → inputs_from 0 (m.cursors.items ++ c ∷ []) queue ≡ inputs m ++ input_of c new ∷ []
  inputs_added c new queue most p =
      let i = length m.cursors.items in let none = waits_none i m.queue was.placed in
      grind (arith, queued_here, inputs_push, inputs_same, queued_beside)

  pub aligned_set : (i : ℕ) (s : S) (f : MergeInput) (m' : MergeState) → inputs m' ≡ set (inputs m) i f
      → length m'.cursors.items ≡ length m.cursors.items
      → AllByRecursion (λ (v : WaitingLine). v.source < length m.cursors.items) m'.queue
      → IsInput past (device.text s) (device.extent s) f → Aligned past device (set ss i s) m'
  aligned_set i s f m' is long placed input =
      record { same = grind (arith, length-set, was.same); placed = rw long placed; input = grind (arith, zip_put) }

-- the first in turn is taken out
module _ {past : List ℕ → Bool} {S : Type 0} {device : Ghosts S} {ss : List S}
    {m : MergeState} (m' : MergeState) {w : WaitingLine} (was : Aligned past device ss m)
    (same : m'.cursors.items ≡ m.cursors.items) (p : IsPermutation m.queue (w ∷ m'.queue)) where
  placed : AllByRecursion (λ (v : WaitingLine). v.source < length m.cursors.items) (w ∷ m'.queue)
  placed = each_permuted (λ (v : WaitingLine). v.source < length m.cursors.items) m.queue (w ∷ m'.queue) p was.placed

  pub inside_sources : w.source < length ss
  inside_sources = let l = placed.0 in let same = was.same in omega arith

  still : (j : ℕ) → waits_of j (w ∷ m'.queue) ≡ waits_of j m.queue
  still j = waits_permuted j m.queue (w ∷ m'.queue) p (few_wait was j)

  waits_now : waits_of w.source m.queue ≡ w.member ∷ waits_of w.source m'.queue
  waits_now = rw (← still w.source) (grind arith)

  pub none_left : waits_of w.source m'.queue ≡ []
  none_left = let few = few_wait was w.source in grind (arith, nil_from_length, waits_now)

  its_one : (b : MergeInput) → (get_or (inputs m) w.source b).waits ≡ w.member ∷ []
  its_one b = waits_at was w.source b inside_sources ∙ waits_now ∙ ap (λ l. w.member ∷ l) none_left

  pub popped_inputs : (b : MergeInput) → inputs m' ≡ set (inputs m) w.source (idle (get_or (inputs m) w.source b))
  popped_inputs b =
      let i = w.source in let cs = m.cursors.items in
      let c = any_of cs i placed.0 in
      let now = inputs_set 0 i i cs m.queue m'.queue (get_or cs i c) (omega arith)
      (λ j q. rw (← still j) (grind arith)) in
      grind (arith, inputs_at, set-get_or, none_left)

  pub popped_aligned : Aligned past device ss m'
  popped_aligned =
      let i = w.source in
      let a : S = any_of ss i inside_sources in
      let b : MergeInput = input_of (any_of m.cursors.items i placed.0) [] in
      rw (set-get_or ss i a) at (aligned_set was i (get_or ss i a) (idle (get_or (inputs m) i b)) m' (popped_inputs b)
      (ap length same) placed.1 (input_idle (input_at was i a b inside_sources) (its_one b)))

  pub popped : {pair : Pair} {group : List Member} (b : MergeInput) → Alike (waiting_pair w) pair
      → TookOf past device.text pair w.source ss ss (inputs m) (inputs m') group (group ++ w.member ∷ [])
  popped b at =
      let i = w.source in
      let a : S = any_of ss i inside_sources in
      let input = input_at was i a b inside_sources in
      record {
        source = get_or ss i a;
        input = idle (get_or (inputs m) i b);
        source_is = sym (set-get_or ss i a);
        inputs_are = popped_inputs b;
        text_is = grind (arith, ap, get_or_default, inside_sources);
        taken = w.member ∷ [];
        rest_is = refl;
        alike = (at, tt);
        done_is = λ d t e.
            let here = get_or_default (inputs m) i d b (let l = placed.0 in let n = inputs_long 0 m.cursors.items m.queue in omega arith) in
            rw here (done_idle input (its_one b) t e);
      }

  pub popped_due : {pair : Pair} (a : S) (b : MergeInput) → Alike (waiting_pair w) pair
      → IsDue past pair (device.text (get_or ss w.source a)) (idle (get_or (inputs m) w.source b))
  popped_due a b at = record {
    none = refl;
    last = λ t e.
        let input = input_at was w.source a b inside_sources in
        let its = its_last input (its_one b) t e in
        (_, w.member, its.0, at, not-true _ its.1);
  }

-- the lines of a source with the pair of a group were taken, and the next one waits
module _ {past : List ℕ → Bool} {S : Type 0} {device : Ghosts S} {ss : List S}
    {m : MergeState} {i : ℕ} (was : Aligned past device ss m) (inside : i < length ss) (b : MergeInput)
    (none : (get_or (inputs m) i b).waits ≡ []) where
  none_waits_here : waits_of i m.queue ≡ []
  none_waits_here = sym (waits_at was i b inside) ∙ none

  pub idle_here : (c : CursorState) → c ≡ get_or m.cursors.items i c → get_or (inputs m) i b ≡ input_of c []
  idle_here c is = grind (arith, inputs_at)

  -- and these lines wait
  module _ (m' : MergeState) (c : CursorState) (cursors : m'.cursors.items ≡ set m.cursors.items i c) (new : List Member)
      (p : IsPermutation (queued i new ++ m.queue) m'.queue) where
    pub waited_inputs : length new ≤ 1 → inputs m' ≡ set (inputs m) i (input_of c new)
    waited_inputs most =
        let now = inputs_set 0 i i m.cursors.items m.queue m'.queue c (omega arith)
        (queued_beside was i none_waits_here new most m'.queue p) in
        grind (arith, none_waits_here, queued_here)

    pub waited_aligned : (s : S) → IsInput past (device.text s) (device.extent s) (input_of c new)
        → Aligned past device (set ss i s) m'
    waited_aligned s input =
        aligned_set was i s _ m' (waited_inputs input.few) (rw cursors (length-set m.cursors.items i c))
        (placed_queued (length m.cursors.items) i m.queue m'.queue new (omega arith) was.placed p) input

    pub waited_length : length m'.queue ≡ length m.queue + length new
    waited_length = grind (arith, length_permutation, length-append, length-map)
