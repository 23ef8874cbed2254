-- What was taken of lines, beside all that is wanted of them: of one source, of all, and where a merge came to.
use Rattle.merge_core.proofs.Words.{[], ℕ, ◌&&◌, ◌++◌, ◌+◌, ◌∙◌, ◌∷◌, ◌≡◌, ◌≤◌, AllByRecursion, AllZip, Below, Bool}
use Rattle.merge_core.proofs.Words.{CursorState, Ghosts, IsAbove, IsCutAt, IsIndex, IsLower, IsRun, IsUpto, LINE_LIMIT}
use Rattle.merge_core.proofs.Words.{List, Member, MergeInput, MergeState, NeverFalls, None, NoneBelow, Option}
use Rattle.merge_core.proofs.Words.{OverIndexes, OverTexts, Pair, Reached, Some, Upto, WaitingLine, all_done, all_lines}
use Rattle.merge_core.proofs.Words.{and_cases, ap, append-nil, append_assoc, arith, collection, done, drop, drop-map}
use Rattle.merge_core.proofs.Words.{each_rising, each_weaker, false, filter, filter-append, given, inl, inputs}
use Rattle.merge_core.proofs.Words.{inputs_from, inr, is_gt, is_low, is_lt, length, length-map, line_entry, lines, map}
use Rattle.merge_core.proofs.Words.{member_of, member_pair, member_place, nat_cmp, nat_list_cmp_total, nil_from_length}
use Rattle.merge_core.proofs.Words.{not, not-false, not-true, ordering_reverse, pair_cmp, pair_cmp_total, place_cmp}
use Rattle.merge_core.proofs.Words.{place_cmp_total, read_lines, refl, rising, rising_split, slice_cmp, stays, sum}
use Rattle.merge_core.proofs.Words.{sum_by-cons, sym, take, take-append-drop, take-map, true, true≢false, waiting_pair}
use Rattle.merge_core.proofs.Words.{zip}
use Rattle.merge_core.proofs.{InputLemmas.TextRead, InputLemmas.filter_passes, Many.each_both, Many.each_filter}
use Rattle.merge_core.proofs.PairOrder.{below_then, from_not_below, then_below, upto_itself, upto_upto}
use Rattle.merge_core.proofs.GroupLemmas.{each_cut, each_waits, filter_all, filter_none}
use Rattle.merge_core.proofs.MergeLemmas.{below_next, is_less, lower_by_pair, place_below}
use Rattle.merge_core.specs.Runs.{IsPart}
use Rattle.merge_core.proofs.SourceLemmas.{IsSought, falls_back, parts, reached_read, reached_sought, run_after}

-- ---- keys

-- a key above one past the range is past it
abbrev pub IsUpward : (List ℕ → Bool) → Type 0
IsUpward past = (key later : List ℕ) → past key ≡ true → is_gt (slice_cmp nat_cmp key later) ≡ false → past later ≡ true

-- ---- filters of what rises

pub wanted_parts : (wanted low : Member → Bool) → IsLower member_place place_cmp low → (xs : List Member)
    → filter wanted (rising member_place place_cmp xs) ≡ filter wanted (rising member_place place_cmp (filter low xs))
    ++ filter wanted (rising member_place place_cmp (filter (λ m. not (low m)) xs))
wanted_parts wanted low lower xs = ap (filter wanted) (rising_split member_place place_cmp place_cmp_total low lower xs)
    ∙ filter-append wanted _ _

-- the last lines
pub wanted_high : (wanted low : Member → Bool) → IsLower member_place place_cmp low
    → ((m : Member) → wanted m ≡ true → low m ≡ false)
    → (xs : List Member) → filter wanted (rising member_place place_cmp xs)
    ≡ filter wanted (rising member_place place_cmp (filter (λ m. not (low m)) xs))
wanted_high wanted low lower passes xs =
    grind (arith, wanted_parts wanted low lower xs, filter_none, each_rising, place_cmp_total, not_low xs)
  where
    not_low : (us : List Member) → AllByRecursion (λ m. wanted m ≡ false) (filter low us)
    not_low [] = tt
    not_low (u ∷ us) = grind (arith, not_low us, passes u)

-- ---- one text, of which some lines were come to

pub members_are : (ls : List (List ℕ)) (ms : List Member) → map (line_entry LINE_LIMIT) ls ≡ map Some ms
    → map member_of ls ≡ ms
members_are (l ∷ ls) (m ∷ ms) e = grind (arith, members_are ls ms)
members_are [] [] e = refl
members_are ls ms e = cc

pub stays_lower : (past : List ℕ → Bool) → IsUpward past → IsLower member_place place_cmp (stays past)
stays_lower past upward x y h k =
    let turned = nat_list_cmp_total.antisymm x.values.key y.values.key in grind (arith, place_below)

-- neither this line nor one that may follow it was come to
abbrev pub IsLate : (Member → Bool) → Member → Type 0
IsLate upto m = (k : Member) → Upto (member_pair m) (member_pair k) → upto k ≡ false

module _ (past : List ℕ → Bool) (upto : Member → Bool) where
  -- which lines were come to
  abbrev pub is_read : Member → Bool
  is_read m = upto m && stays past m

  -- the first line of the rest isn't read, and so none
  rest_unread : (before : List Member) (m : Member) (rest ms : List Member) → ms ≡ before ++ m ∷ rest
      → NeverFalls member_pair pair_cmp ms → ((k : Member) → Upto (member_pair m) (member_pair k) → is_read k ≡ false)
      → AllByRecursion (λ m. is_read m ≡ false) (m ∷ rest)
  rest_unread before m rest ms e falls f =
      (f m (upto_itself (member_pair m)), each_weaker f rest (falls_back before (m ∷ rest) (rw e at falls)).0)

module _ {past : List ℕ → Bool} (upward : IsUpward past) (upto : Member → Bool) {t : List ℕ} {f : MergeInput}
    (r : TextRead past t f) (late : AllByRecursion (IsLate upto) f.waits)
    (each : AllByRecursion (λ m. upto m ≡ true) (done past t f)) where
  -- a line at which the range has ended, and those after it
  unread_past : (last k : Member) → past last.values.key ≡ true → Upto (member_pair last) (member_pair k)
      → is_read past upto k ≡ false
  unread_past last k e u = let up = upward last.values.key k.values.key e in grind arith

  done_read : AllByRecursion (λ m. is_read past upto m ≡ true) (done past t f)
  done_read =
      each_weaker (λ m (h : (upto m ≡ true) × (stays past m ≡ true)). grind arith) _ (each_both _ _ _ each
      (filter_passes (stays past) _))

  module _ (ms rest : List Member) (is : ms ≡ given t f.cursor ++ rest) (falls : NeverFalls member_pair pair_cmp ms)
      (end : lines (drop f.cursor.at t) ≡ [] → rest ≡ []) where
    -- where the last line that was read lies past the range, none after it was come to
    past_unread : (before : List Member) (last : Member) → given t f.cursor ≡ before ++ last ∷ []
        → past last.values.key ≡ true → AllByRecursion (λ m. is_read past upto m ≡ false) (last ∷ rest)
    past_unread before last cut e =
        rest_unread past upto before last rest ms (grind (arith, append_assoc)) falls (λ k u. unread_past last k e u)

    -- the line that was read and not taken, and those after it
    tail_unread : (ls : List Member) → length ls ≤ 1 → f.waits ≡ filter (stays past) ls
        → given t f.cursor ≡ done past t f ++ ls → AllByRecursion (λ m. is_read past upto m ≡ false) (ls ++ rest)
    tail_unread [] one waiting cut = elim (r.settled waiting) [
      | inl none ↦ rw (end none) tt
      | inr k ↦ (past_unread k.0 k.1 k.2 k.3).1
    ]
    tail_unread (m ∷ []) one waiting cut =
        rest_unread past upto (done past t f) m rest ms (grind (arith, append_assoc)) falls (by (stays past m) refl)
      where
        by : (b : Bool) → stays past m ≡ b → (k : Member) → Upto (member_pair m) (member_pair k)
            → is_read past upto k ≡ false
        by true s k u = grind arith
        by false s k u = unread_past m k (not-false _ s) u
    tail_unread (m ∷ k ∷ ls) one waiting cut = absurd (omega arith)

    read_of : filter (is_read past upto) ms ≡ done past t f
    read_of = grind (arith, append_assoc, done_read, filter-append, filter_all, filter_none, append-nil, tail_unread)

  -- Of the lines from the start on, those that were come to are those that were taken
  pub input_read : (ms : List Member) → IsRun LINE_LIMIT (lines (drop f.cursor.start t)) ms
      → filter (is_read past upto) ms ≡ done past t f
  input_read ms run =
      let n = f.cursor.count in
      let whole : map member_of (lines (drop f.cursor.start t)) ≡ ms = members_are _ ms run.entries in
      let read : given t f.cursor ≡ take n ms = grind (arith, take-map) in
      let rest : drop n ms ≡ map member_of (lines (drop f.cursor.at t)) = grind (arith, drop-map) in
      read_of ms (drop n ms) (grind (arith, take-append-drop)) run.ordered (grind arith)

  -- the same of the lines that were read
  pub given_read : filter (is_read past upto) (given t f.cursor) ≡ done past t f
  given_read = read_of _ [] (sym (append-nil _)) r.told.run.ordered (λ e. refl)

-- ---- all texts

pub late_inputs : (upto : Member → Bool) (n : ℕ) (cs : List CursorState) (ws : List WaitingLine)
    → AllByRecursion (λ (w : WaitingLine). IsLate upto w.member) ws
    → AllByRecursion (λ f. AllByRecursion (IsLate upto) f.waits) (inputs_from n cs ws)
late_inputs upto n [] ws late = tt
late_inputs upto n (c ∷ cs) ws late = grind (arith, each_waits, each_weaker, late_inputs upto (n + 1) cs ws late)

-- of indexes, by the lines of each that aren't below the start
all_read : (upto : Member → Bool) {past : List ℕ → Bool} → IsUpward past → (start : Pair) (texts : List (List ℕ))
    (fs : List MergeInput) (indexes : List (List Member))
    → AllByRecursion (λ f. AllByRecursion (IsLate upto) f.waits) fs → AllZip (TextRead past) texts fs
    → AllZip (IsIndex LINE_LIMIT) texts indexes → AllZip (IsSought start) (zip texts fs) indexes
    → AllByRecursion (λ m. upto m ≡ true) (all_done past texts fs)
    → filter (is_read past upto) (filter (λ m. not (is_low start m)) (all_lines indexes)) ≡ all_done past texts fs
all_read upto {past = past} upward start (t ∷ ts) (f ∷ fs) (i ∷ is) late read are cut each =
    let parts = each_cut (λ m. upto m ≡ true) (done past t f) _ each in
    let run = run_after start t i f.cursor.start are.0 cut.0 in
    grind (arith, input_read, filter-append, all_read upto upward start ts fs is)
all_read upto upward start ts fs is late read are cut each = grind (arith, input_read)

-- ---- the parts of texts that were read

part_is : {past : List ℕ → Bool} {t : List ℕ} {f : MergeInput} (whole : Bool) → TextRead past t f
    → (whole ≡ true → f.waits ≡ []) → IsPart past whole t (given t f.cursor)
part_is {t = t} {f = f} whole read none = record {
  before = read.told.begins.0;
  read = read_lines t f.cursor;
  after = lines (drop f.cursor.at t);
  cut = grind (arith, take-append-drop, append_assoc);
  run = read.told.run;
  ended = λ e. read.settled (none e);
}

pub none_wait : (n : ℕ) (cs : List CursorState) → AllByRecursion (λ f. f.waits ≡ []) (inputs_from n cs [])
none_wait n [] = tt
none_wait n (c ∷ cs) = (refl, none_wait (n + 1) cs)

module _ (past : List ℕ → Bool) where
  -- each is a part of its text
  pub parts_are : (texts : List (List ℕ)) (fs : List MergeInput) (whole : Bool) → AllZip (TextRead past) texts fs
      → (whole ≡ true → AllByRecursion (λ f. f.waits ≡ []) fs) → AllZip (IsPart past whole) texts (parts texts fs)
  parts_are (t ∷ ts) (f ∷ fs) whole read none =
      (part_is whole read.0 (λ e. (none e).0), parts_are ts fs whole read.1 (λ e. (none e).1))
  parts_are ts fs whole read none = grind arith

  -- they have as many lines as were counted
  pub parts_count : (texts : List (List ℕ)) (fs : List MergeInput) → AllZip (TextRead past) texts fs
      → sum (map (λ (c : CursorState). c.count) (map (λ (f : MergeInput). f.cursor) fs))
      ≡ sum (map (λ (ms : List Member). length ms) (parts texts fs))
  parts_count (t ∷ ts) (f ∷ fs) read =
      let a = sum_by-cons (λ (k : ℕ). k) f.cursor.count (map (λ c. c.count) (map (λ f. f.cursor) fs)) in
      let b = sum_by-cons (λ (k : ℕ). k) (length (given t f.cursor))
      (map (λ (ms : List Member). length ms) (parts ts fs)) in
      grind (arith, length-map, parts_count ts fs)
  parts_count ts fs read = grind (arith, nil_from_length)

  parts_read : (upto : Member → Bool) → IsUpward past → (texts : List (List ℕ)) (fs : List MergeInput)
      → AllByRecursion (λ f. AllByRecursion (IsLate upto) f.waits) fs → AllZip (TextRead past) texts fs
      → AllByRecursion (λ m. upto m ≡ true) (all_done past texts fs)
      → filter (is_read past upto) (all_lines (parts texts fs)) ≡ all_done past texts fs
  parts_read upto upward (t ∷ ts) (f ∷ fs) late read each =
      let parts = each_cut (λ m. upto m ≡ true) (done past t f) _ each in
      grind (arith, given_read, filter-append, parts_read upto upward ts fs)
  parts_read upto upward ts fs late read each = grind (arith, given_read)

-- ---- what stands above a bound

gt_back : (p q : Pair) → is_gt (pair_cmp p q) ≡ true → Below q p
gt_back p q h = grind (arith, pair_cmp_total)

abbrev upto_bound : Option Pair → Member → Bool
upto_bound None m = false
upto_bound (Some p) m = not (is_gt (pair_cmp (member_pair m) p))

bound_upto : (b : Option Pair) (m : Member) → IsUpto b (member_pair m) → upto_bound b m ≡ true
bound_upto b m h = grind (arith, not)

bound_late : (b : Option Pair) (m k : Member) → IsAbove b (member_pair m) → Upto (member_pair m) (member_pair k)
    → upto_bound b k ≡ false
bound_late None m k h u = refl
bound_late (Some p) m k h u = ap (λ r. not (is_gt r)) (pair_cmp_total.antisymm (member_pair k) p
    ∙ ap ordering_reverse (below_then p (member_pair m) (member_pair k) h u))

bound_above : (b : Option Pair) (m : Member) → upto_bound b m ≡ false → IsAbove b (member_pair m)
bound_above None m h = tt
bound_above (Some p) m h = gt_back (member_pair m) p (not-false _ h)

bound_lower : (b : Option Pair) (x y : Member) → upto_bound b x ≡ true → upto_bound b y ≡ false
    → Below (member_pair x) (member_pair y)
bound_lower None x y h k = cc
bound_lower (Some p) x y h k = then_below (member_pair x) p (member_pair y) (not-true _ h)
    (gt_back (member_pair y) p (not-false _ k))

-- ---- what was taken

-- what was taken of lines, of which those that were come to are known
pub record Took (past : List ℕ → Bool) (wanted : Member → Bool) (b : Option Pair) (ws : List WaitingLine)
    (whole taken : List Member) : Type 0 where
  pub upward : IsUpward past
  pub within : (m : Member) → wanted m ≡ true → stays past m ≡ true
  pub above : AllByRecursion (λ w. IsAbove b (waiting_pair w)) ws
  pub all : List Member
  pub wanted_of : filter wanted whole ≡ filter wanted (rising member_place place_cmp all)
  pub done : List Member
  pub handed : (taken ≡ rising member_place place_cmp done) × AllByRecursion (λ m. IsUpto b (member_pair m)) done
  pub read : (upto : Member → Bool) → AllByRecursion (λ (w : WaitingLine). IsLate upto w.member) ws
      → AllByRecursion (λ m. upto m ≡ true) done → filter (is_read past upto) all ≡ done

module _ {past : List ℕ → Bool} {wanted : Member → Bool} {b : Option Pair} {ws : List WaitingLine}
    {whole taken : List Member} (r : Took past wanted b ws whole taken) where
  -- what was taken is a front, and the rest wasn't come to
  split : (upto : Member → Bool)
      → ((x y : Member) → upto x ≡ true → upto y ≡ false → Below (member_pair x) (member_pair y))
      → AllByRecursion (λ (w : WaitingLine). IsLate upto w.member) ws → AllByRecursion (λ m. upto m ≡ true) r.done
      → (rest : List Member) × (filter wanted whole ≡ filter wanted taken ++ rest)
      × AllByRecursion (λ m. (is_read past upto m ≡ false) × (wanted m ≡ true)) rest
  split upto lower late each =
      let low = is_read past upto in
      let is_lower : IsLower member_place place_cmp low = grind (arith, and_cases, place_below, stays_lower) in
      let others = rising member_place place_cmp (filter (λ m. not (low m)) r.all) in (
        filter wanted others,
        r.wanted_of ∙ wanted_parts wanted low is_lower r.all
            ∙ ap (λ l. l ++ filter wanted others) (grind arith),
        each_filter (λ m. low m ≡ false) wanted others
            (each_rising member_place place_cmp place_cmp_total (λ m. low m ≡ false) _
            (each_weaker (λ m. not-true (low m)) _ (filter_passes (λ m. not (low m)) r.all))),
      )

  -- it is a front of what is wanted, and the rest stands above the bound
  pub taken_first : (rest : List Member) × (filter wanted whole ≡ filter wanted taken ++ rest)
      × AllByRecursion (λ m. (wanted m ≡ true) × IsAbove b (member_pair m)) rest
  taken_first =
      let cut = split (upto_bound b) (bound_lower b) (grind (arith, each_weaker, bound_late))
      (each_weaker (bound_upto b) r.done r.handed.1) in
      grind (arith, each_weaker, bound_above, true≢false)

  -- where no line waits, it is all
  pub taken_whole : ws ≡ [] → filter wanted whole ≡ filter wanted taken
  taken_whole none =
      let cut = split (λ m. true) (λ x y h k. absurd (true≢false k)) (rw none tt)
      (each_weaker (λ m h. refl) r.done r.handed.1) in
      rw (none_left cut.0 cut.2, append-nil) at cut.1
    where
      none_left : (rest : List Member)
          → AllByRecursion (λ m. (is_read past (λ k. true) m ≡ false) × (wanted m ≡ true)) rest → rest ≡ []
      none_left [] h = refl
      none_left (m ∷ ms) h = absurd (true≢false (sym (r.within m h.0.1) ∙ h.0.0))

  -- what was taken stands below this pair, and the lines that wait don't
  module _ (next : Pair) (later : IsAbove b next) (least : NoneBelow next ws) where
    not_low : (k : Member) → Upto next (member_pair k) → is_low next k ≡ false
    not_low k u = grind (arith, pair_cmp_total.antisymm (member_pair k) next)

    from_next : (m : Member) → (is_read past (is_low next) m ≡ false) × (wanted m ≡ true) → (wanted m ≡ true)
        × Upto next (member_pair m)
    from_next m h = (h.1, grind (arith, and_cases, from_not_below (member_pair m) next))

    -- then the rest doesn't stand below it either
    pub taken_before : (rest : List Member) × (filter wanted whole ≡ filter wanted taken ++ rest)
        × AllByRecursion (λ m. (wanted m ≡ true) × Upto next (member_pair m)) rest
    taken_before =
        let cut = split (is_low next) (λ x y h k. below_then (member_pair x) next (member_pair y) (is_less _ h)
        (from_not_below (member_pair y) next k))
        (each_weaker (λ (w : WaitingLine) (h : Upto next (waiting_pair w)). λ k u. not_low k
        (upto_upto next (member_pair w.member) (member_pair k) h u)) ws least)
        (grind (arith, each_weaker, is_lt, below_next)) in
        grind (arith, each_weaker, from_next)

-- ---- where a merge came to: what was taken of the lines that are wanted

module _ {S : Type 0} {device : Ghosts S} {past : List ℕ → Bool} {old ss : List S} {begun m : MergeState}
    {b : Option Pair} {taken : List Member} (reached : Reached past device old begun ss m b taken)
    (upward : IsUpward past) (wanted : Member → Bool) (within : (m : Member) → wanted m ≡ true → stays past m ≡ true)
  where
    -- of indexes, which were read from where the search for a pair ended, which none of the lines is below
    pub took_of_indexes : (start : Pair)
        → AllByRecursion (λ x. IsCutAt start (device.text x.0) x.1) (zip old begun.cursors.items)
        → ((m : Member) → wanted m ≡ true → is_low start m ≡ false)
        → OverIndexes (map device.text old) (λ texts indexes. Took past wanted b m.queue (collection indexes) taken)
    took_of_indexes start cut beyond texts indexes known are =
        let read = reached_read reached texts known in
        record {
          upward = upward;
          within = within;
          above = reached.above;
          all = filter (λ m. not (is_low start m)) (all_lines indexes);
          wanted_of = wanted_high wanted (is_low start) (lower_by_pair start) beyond (all_lines indexes);
          done = all_done past texts (inputs m);
          handed = reached.handed.told texts known;
          read = grind (arith, reached_sought, all_read, late_inputs);
        }

    -- of the lines that were read
    pub took_of_parts : OverTexts (map device.text old) (λ texts.
        Took past wanted b m.queue (collection (parts texts (inputs m))) taken)
    took_of_parts texts known =
        let read = reached_read reached texts known in
        record {
          upward = upward;
          within = within;
          above = reached.above;
          all = all_lines (parts texts (inputs m));
          wanted_of = refl;
          done = all_done past texts (inputs m);
          handed = reached.handed.told texts known;
          read = grind (arith, late_inputs, parts_read);
        }
