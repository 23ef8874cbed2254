-- How far sources were read: in lines and in bytes.
use Rattle.merge_core.proofs.Words.{[], ℕ, ◌++◌, ◌+◌, ◌<◌, ◌∙◌, ◌∷◌, ◌≡◌, ◌≤◌, AllByRecursion, AllGaveWithin, AllZip}
use Rattle.merge_core.proofs.Words.{AreInputs, AreOpened, AreReadTo, Bool, CursorState, EachDone, EndsAt, Ghosts}
use Rattle.merge_core.proofs.Words.{Grouped, IsCut, IsIndex, IsInput, IsInputOf, IsUpto, Known, LINE_LIMIT, List}
use Rattle.merge_core.proofs.Words.{Member, MergeInput, MergeState, Option, OverShares, OverTexts, Pair, Reached}
use Rattle.merge_core.proofs.Words.{ReadTo, Some, WaitingLine, all_done, all_lines, ap, append-nil, append_assoc, arith}
use Rattle.merge_core.proofs.Words.{bytes_of, done, drop, drop-set-lt, drop_more_same, each_weaker, false, filter}
use Rattle.merge_core.proofs.Words.{filter-append, first_length, flat_map-append, get_or, get_or-drop, given, input_of}
use Rattle.merge_core.proofs.Words.{inputs, is_at, is_low, is_of, length, length-append, length-drop, length-map}
use Rattle.merge_core.proofs.Words.{length-take, line_entry, lines, lines_text, longest, map, map-append, member_of}
use Rattle.merge_core.proofs.Words.{member_pair, nil_from_length, not, read_lines, refl, set, suc, sum, sum_by-cons}
use Rattle.merge_core.proofs.Words.{sym, take, take-append-drop, take-map, take-take, true, waits_of, zero, zip}
use Rattle.source_core.proofs.LongestLines.{first_most, longest_drop}
use Rattle.merge_core.proofs.InputLemmas.{TextRead, all_taken, all_upto, done_cut, done_within}
use Rattle.merge_core.proofs.Many.{Move, each_both, each_replaced, each_take, filter_fewer, filter_front, filter_weaker}
use Rattle.merge_core.proofs.{GroupLemmas.each_cut, GroupLemmas.filter_all, Many.zip_set}
use Rattle.merge_core.proofs.{MergeLemmas.gathered_now, TakenLemmas.members_are}
use Rattle.merge_core.proofs.StateLemmas.{cursors_of, few_wait, long_of}
use Rattle.merge_core.proofs.SourceLemmas.{IsSought, each_done, reached_long, reached_read, run_after}
use Rattle.std.proofs.lemmas.List.Filters.{length-filter_both}

-- ---- how far sources were read

longest_later : (k : ℕ) (ls : List (List ℕ)) → longest (drop k ls) ≤ longest ls
longest_later (suc k) (l ∷ ls) = let h = longest_later k ls in omega arith
longest_later k ls = omega arith

longest_front : (k : ℕ) (ls : List (List ℕ)) → longest (take k ls) ≤ longest ls
longest_front (suc k) (l ∷ ls) = let h = longest_front k ls in omega arith
longest_front k ls = omega arith

-- one line at most
one_line : (ls : List (List ℕ)) → length ls ≤ 1 → bytes_of ls ≤ longest ls
one_line (l ∷ []) h = omega (arith, ap length (append-nil l))
one_line ls h = omega arith

-- a cursor that passed one line more at most than those that were read of a text
pub read_to : {past : List ℕ → Bool} {t : List ℕ} {f : MergeInput} → IsInputOf past t f → (b : Option Pair)
    (new : CursorState) → AllByRecursion (λ m. IsUpto b (member_pair m)) (done past t f)
    → new.start ≡ f.cursor.start → new.at ≤ f.cursor.at + first_length (lines (drop f.cursor.at t))
    → length new.ahead ≤ 8192 → ReadTo past b t new
read_to {past = past} {t = t} {f = f} told b new upto start near ahead =
    let from = lines (drop f.cursor.start t) in let all = read_lines t f.cursor in
    let cut = done_cut told in let k = cut.0 in
    let last = one_line (drop k all) (grind (arith, length-drop)) in
    let whole = ap bytes_of (take-append-drop k all) in let within = done_within past t f in
    record {
      read = take k all;
      rest = drop k all ++ drop f.cursor.count from;
      cut = grind (arith, append_assoc, take-append-drop);
      members = done past t f;
      entries = rw cut.3 (sym (take-map (line_entry LINE_LIMIT) k all) ∙ ap (take k) told.run.entries
          ∙ take-map Some k (given t f.cursor));
      within = each_both _ _ _ within upto;
      most = grind (arith, flat_map-append, length-append, longest_later, longest_front, longest_drop, first_most);
    }

-- the same where the last line that was read has the pair
pub group_most : {past : List ℕ → Bool} {text : Option (List ℕ)} {extent : ℕ} {c : CursorState} {pair : Pair}
    → IsInput past text extent (input_of c []) → (t : List ℕ) → text ≡ Some t → EndsAt past pair (given t c)
    → (new : CursorState) → new.start ≡ c.start → new.at ≤ c.at + first_length (lines (drop c.at t))
    → length new.ahead ≤ 8192 → ReadTo past (Some pair) t new
group_most {pair = pair} input t is end new start near ahead =
    let told = input.told t is in
    read_to told (Some pair) new (rw (all_taken told end) (all_upto told end)) start near ahead

module _ (past : List ℕ → Bool) {S : Type 0} (device : Ghosts S) (b : Option Pair) where
  each_read_to : (ss : List S) (fs : List MergeInput) → AreInputs past device ss fs
      → EachDone past device.text (AllByRecursion (λ m. IsUpto b (member_pair m))) ss fs
      → AreReadTo past device.text b ss (map (λ f. f.cursor) fs)
  each_read_to (s ∷ ss) (f ∷ fs) input upto = (
    (λ t e. read_to (input.0.told t e) b f.cursor (upto.0 t e) refl (omega arith) input.0.stands.filled.most),
    each_read_to ss fs input.1 upto.1,
  )
  each_read_to ss fs input upto = grind arith

  -- sources of which no line above the bound was taken
  pub are_read_to : (ss : List S) (m : MergeState) → AreInputs past device ss (inputs m)
      → EachDone past device.text (AllByRecursion (λ m. IsUpto b (member_pair m))) ss (inputs m)
      → AreReadTo past device.text b ss m.cursors.items
  are_read_to ss m input upto = rw (cursors_of 0 m.cursors.items m.queue) at (each_read_to ss (inputs m) input upto)

  -- one of them was read on
  pub read_on : (ss : List S) (cs : List CursorState) (i : ℕ) (s : S) (c : CursorState) → AreReadTo past device.text b ss cs
      → ((t : List ℕ) → device.text s ≡ Some t → ReadTo past b t c)
      → AreReadTo past device.text b (set ss i s) (set cs i c)
  read_on ss cs i s c h k = grind (arith, zip_set, each_replaced)

-- sources of which a merge came to a bound
pub reached_read_to : {S : Type 0} {device : Ghosts S} {past : List ℕ → Bool} {old ss : List S} {begun m : MergeState}
    {b : Option Pair} {taken : List Member} → Reached past device old begun ss m b taken
    → OverTexts (map device.text old) (λ _. AreReadTo past device.text b ss m.cursors.items)
reached_read_to {device = device} {past = past} {ss = ss} {m = m} {b = b} reached texts known =
    let aligned = reached.ready.aligned in
    are_read_to past device b ss m aligned.input (each_done past device.text
    (λ m. IsUpto b (member_pair m)) ss (inputs m)
    texts (long_of aligned) (rw (← reached.kept.0) at known) (reached.handed.told texts known).1)

-- ---- the opening of sources

-- what is left of a list that was gone over up to an index
pub left_here : {X : Type 0} (old xs : List X) (i : ℕ) (d : X) → drop i xs ≡ drop i old → get_or xs i d ≡ get_or old i d
left_here old xs i d e = let was = get_or-drop i old 0 d in let now = get_or-drop i xs 0 d in grind arith

pub left_after : {X : Type 0} (old xs : List X) (i : ℕ) (y : X) → drop i xs ≡ drop i old → drop (i + 1) (set xs i y)
    ≡ drop (i + 1) old
left_after old xs i y e = grind (arith, drop-set-lt, drop_more_same)

-- ---- the lines that wait: one of each source at most

others_before : (n : ℕ) (ws : List WaitingLine) → AllByRecursion (λ (w : WaitingLine). w.source < suc n) ws
    → AllByRecursion (λ (w : WaitingLine). w.source < n) (filter (λ w. not (is_of n w)) ws)
others_before n [] placed = tt
others_before n (w ∷ ws) placed = grind (arith, others_before n ws placed.1)

few_of : (n : ℕ) (ws : List WaitingLine) → AllByRecursion (λ (w : WaitingLine). w.source < n) ws
    → ((i : ℕ) → i < n → length (waits_of i ws) ≤ 1) → length ws ≤ n
few_of (suc n) ws placed few =
    let others = filter (λ w. not (is_of n w)) ws in
    let split = length-filter_both (is_of n) (λ w. not (is_of n w)) (λ w. refl) ws in
    let fewer = few_of n others (others_before n ws placed) (grind (arith, length-map, filter_fewer)) in
    grind (arith, length-map)
few_of zero [] placed few = omega arith
few_of zero (w ∷ ws) placed few = grind arith

-- ---- the lines of a group

-- what was taken of an index is among its lines
pub done_fewer : {past : List ℕ → Bool} {t : List ℕ} {f : MergeInput} {ms : List Member} (test : Member → Bool)
    → IsInputOf past t f → IsIndex LINE_LIMIT t ms → length (filter test (done past t f)) ≤ length (filter test ms)
done_fewer {past = past} {t = t} {f = f} {ms = ms} test told index =
    let cut = done_cut told in
    let whole = map-append member_of told.begins.0 (lines (drop f.cursor.start t)) in
    let read = take-map member_of f.cursor.count (lines (drop f.cursor.start t)) in
    grind (arith, members_are, filter_front, filter-append, length-append)

all_fewer : (past : List ℕ → Bool) (texts : List (List ℕ)) (fs : List MergeInput) (indexes : List (List Member))
    (test : Member → Bool) → AllZip (TextRead past) texts fs → AllZip (IsIndex LINE_LIMIT) texts indexes
    → length (filter test (all_done past texts fs)) ≤ length (filter test (all_lines indexes))
all_fewer past (t ∷ ts) (f ∷ fs) (i ∷ is) test read are =
    grind (arith, done_fewer, filter-append, length-append, all_fewer past ts fs is test)
all_fewer past ts fs is test read are = grind arith

module _ {S : Type 0} {device : Ghosts S} {past : List ℕ → Bool}
    {old ss0 ss : List S} {begun m0 m : MergeState} {b c : Option Pair} {pair : Pair} {taken more group : List Member}
    (was : Reached past device old begun ss0 m0 b taken)
    (grouped : Grouped past device ss0 m0 ss m pair group)
    (now : Reached past device old begun ss m c more) where
  -- the lines that wait and the group are one line of each source, and as many as share a pair
  pub held_most : OverShares (map device.text old) (λ most. length m.queue + length group ≤ length old + most)
  held_most texts indexes known are most share =
      let aligned = now.ready.aligned in
      let gathered = gathered_now was grouped texts known in
      let there = all_fewer past texts (inputs m) indexes (is_at pair) (reached_read now texts known) are in
      let few = few_of (length ss) m.queue (rw (← aligned.same) at aligned.placed) (λ i l. few_wait aligned i) in
      let long = reached_long now in
      grind (arith, filter_weaker, each_weaker)

-- ---- the lines that were read

-- this test holds of all lines that lie within the range, aren't below the pair and don't stand above the bound
pub record Passes (past : List ℕ → Bool) (start : Pair) (b : Option Pair) (test : Member → Bool) : Type 0 where
  pub passes : (m : Member) → past m.values.key ≡ false → is_low start m ≡ false → IsUpto b (member_pair m)
      → test m ≡ true

-- lines were read of sources that are indexes, from where the search for that pair ended
module _ {past : List ℕ → Bool} {start : Pair} {b : Option Pair} {test : Member → Bool}
    (p : Passes past start b test) where
  pub each_passes : (ms : List Member) → AllByRecursion (λ m. (past m.values.key ≡ false) × IsUpto b (member_pair m)) ms
      → AllByRecursion (λ m. is_low start m ≡ false) ms → AllByRecursion (λ m. test m ≡ true) ms
  each_passes [] within not_low = tt
  each_passes (m ∷ ms) within not_low = (p.passes m within.0.0 not_low.0 within.0.1, each_passes ms within.1 not_low.1)

  source_most : {t : List ℕ} {f : MergeInput} {ms : List Member} → IsInputOf past t f → IsIndex LINE_LIMIT t ms
      → IsCut start t ms f.cursor.start → AllByRecursion (λ m. IsUpto b (member_pair m)) (done past t f)
      → f.cursor.count ≤ length (filter test ms) + 1
  source_most {t = t} {f = f} {ms = ms} told index cut upto =
      let run = run_after start t ms f.cursor.start index cut in
      let high : map member_of (lines (drop f.cursor.start t)) ≡ cut.high = members_are _ cut.high run.0.entries in
      let done_of = done_cut told in let k = done_of.0 in
      let front : done past t f ≡ take k cut.high = grind (arith, take-map, take-take) in
      let not_low = rw (← front) at (each_take (λ m. is_low start m ≡ false) k cut.high cut.none_below) in
      let fewer = done_fewer test told index in let within = done_within past t f in
      grind (arith, length-map, each_both, each_passes, filter_all, length-take)

  -- No more lines were read than those that pass, and one of each source
  pub lines_most : (texts : List (List ℕ)) (fs : List MergeInput) (indexes : List (List Member))
      → AllZip (TextRead past) texts fs → AllZip (IsIndex LINE_LIMIT) texts indexes
      → AllZip (IsSought start) (zip texts fs) indexes
      → AllByRecursion (λ m. IsUpto b (member_pair m)) (all_done past texts fs)
      → sum (map (λ (c : CursorState). c.count) (map (λ (f : MergeInput). f.cursor) fs))
      ≤ length (filter test (all_lines indexes)) + length indexes
  lines_most (t ∷ ts) (f ∷ fs) (i ∷ is) read are cut upto =
      let parts = each_cut (λ m. IsUpto b (member_pair m)) (done past t f) (all_done past ts fs) upto in
      let here = source_most read.0.told are.0 cut.0 parts.0 in
      let rest = lines_most ts fs is read.1 are.1 cut.1 parts.1 in
      let count = sum_by-cons (λ (k : ℕ). k) f.cursor.count (map (λ c. c.count) (map (λ f. f.cursor) fs)) in
      grind (arith, length-append, filter-append)
  lines_most ts fs is read are cut upto = grind (arith, nil_from_length)

-- ---- how many bytes indexes gave

rows_most : (ls : List (List ℕ)) (ms : List Member) → map (line_entry LINE_LIMIT) ls ≡ map Some ms
    → bytes_of ls ≤ length (lines_text ms)
rows_most (l ∷ ls) (m ∷ ms) e = grind (arith, length-take, length-append, rows_most ls ms)
rows_most ls ms e = grind arith

-- of equal lists of entries, the one is a front
front_of : (us : List Member) (zs : List (Option Member)) (vs : List Member) → map Some us ++ zs ≡ map Some vs
    → (tail : List Member) × (vs ≡ us ++ tail)
front_of (u ∷ us) zs (v ∷ vs) e = grind (arith, front_of us zs vs)
front_of us zs vs e = grind arith

-- indexes were read from where the search for a pair ended
module _ {past : List ℕ → Bool} {start : Pair} {b : Option Pair} {test : Member → Bool}
    (p : Passes past start b test) where
  source_bytes : (t : List ℕ) (ms : List Member) (c : CursorState) → IsIndex LINE_LIMIT t ms → IsCut start t ms c.start
      → (r : ReadTo past b t c) → bytes_of r.read ≤ length (lines_text (filter test ms))
  source_bytes t ms c index cut r =
      let run = run_after start t ms c.start index cut in
      let tail = front_of r.members (map (line_entry LINE_LIMIT) r.rest) cut.high (grind (arith, map-append)) in
      let not_low = (each_cut (λ m. is_low start m ≡ false) r.members tail.0 (rw (← tail.1) cut.none_below)).0 in
      grind (arith, filter-append, filter_all, rows_most, flat_map-append, length-append, each_passes)

  module _ {S : Type 0} (device : Ghosts S) where
    -- What sources gave from before they were opened, when they were read up to the bound
    pub gave_most : (ss0 : List S) (xs1 xs : List (S × CursorState)) (texts : List (List ℕ)) (indexes : List (List Member))
        → Known (map device.text ss0) texts → AllZip (IsIndex LINE_LIMIT) texts indexes
        → AreOpened device start ss0 xs1 → AllZip (Move device) xs1 xs
        → AllByRecursion (λ x. (t : List ℕ) → device.text x.0 ≡ Some t → ReadTo past b t x.1) xs
        → AllGaveWithin device test texts indexes ss0 (map (λ x. x.0) xs)
    gave_most (s ∷ ss) (y ∷ ys) (x ∷ xs) (t ∷ ts) (i ∷ is) known are opened moved reads =
        let m = moved.0 in let o = opened.0 in
        let r = reads.0 t (m.text_kept ∙ o.kept.0 ∙ known.0) in
        let came = o.came t known.0 in
        let here = source_bytes t i x.1 are.0 (rw m.start_kept (o.cut t i known.0 are.0)) r in
        grind (arith, gave_most ss ys xs ts is)
    gave_most ss ys xs ts is known are opened moved reads = grind arith
