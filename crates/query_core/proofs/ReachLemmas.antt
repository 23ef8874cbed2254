-- What was taken of indexes, beside all that is wanted of their collection.
use Rattle.query_core.proofs.Words.{[], ℕ, ◌&&◌, ◌++◌, ◌-◌, ◌^◌, ◌∷◌, ◌≡◌, ◌≤◌, All, All-head, All-tail, AllByRecursion}
use Rattle.query_core.proofs.Words.{AllGaveWithin, AllZip, AreAtMost, AreLinesOf, Bool, GaveFor, Ghosts, IsAbove}
use Rattle.query_core.proofs.Words.{IsIndex, Known, LINE_LIMIT, List, Member, NoneBelow, Option, Ordering, OverIndexes}
use Rattle.query_core.proofs.Words.{Pair, PlaceValue, QueryValue, ReadFor, Some, TargetValue, Upto, and_parts, ap}
use Rattle.query_core.proofs.Words.{append-nil, append_assoc, arith, bytes_eq-Decides, collection, each_join, each_kept}
use Rattle.query_core.proofs.Words.{each_weaker, eqb-true, false, false_from_ne_true, filter, in_reach, inputs}
use Rattle.query_core.proofs.Words.{is_above, is_gt, is_low, is_past, is_stamp, is_wanted, length, line_row, map}
use Rattle.query_core.proofs.Words.{member_pair, member_place, min, nat_cmp, nat_tests, not, pair_cmp, pair_cmp_total}
use Rattle.query_core.proofs.Words.{place_before, place_cmp, place_cmp_total, refl, same_part, slice_cmp, suc, sum}
use Rattle.query_core.proofs.Words.{true, upto_upto, zero, zip}
use Rattle.query_core.proofs.WriterLemmas.{captures, captures_append, captures_split, kept_after}
use Rattle.std.proofs.Common.{is_lt, replicate}
use Rattle.query_text.proofs.RangeLaw.{match_not_below, past_upward}
use Rattle.merge_core.specs.{PairOrders.Alike, PairOrders.IsUpto, declared.state.MergeState.MergeState}
use Rattle.merge_core.specs.{Collections.OverTexts, Openings.AreOpened, Reached.Reached}
use Rattle.merge_core.proofs.{MergeLemmas.is_less, OpenLemmas.cuts_of, StateLemmas.cursors_of}
use Rattle.merge_core.proofs.TakenLemmas.{Took, none_wait, parts_are, parts_count, taken_before, taken_first}
use Rattle.merge_core.proofs.TakenLemmas.{taken_whole, took_of_indexes, took_of_parts}
use Rattle.merge_core.specs.Spending.{AreReadTo, OpenedWithin}
use Rattle.merge_core.proofs.SourceLemmas.{parts, reached_long, reached_read, reached_sought, taken_lines}
use Rattle.query_core.specs.Starts.{first_stamp, later_pair, start_pair}
use Rattle.cdxj_core.proofs.MemberLemmas.{entry_valued}
use Rattle.std.specs.{Char.is_ascii_digit, FinMap.slice_cmp-IsAntisymmetric, Ordering.ordering_then}
use Rattle.std.proofs.lemmas.Slice.Zip.{AllZip-long}
use Rattle.cdxj_places.proofs.PlaceLaw.{both}
use Rattle.query_text.specs.Matching.{begins, covers}
use Rattle.source_core.specs.Cursors.{CursorState}
use Rattle.merge_core.proofs.CountLemmas.{Passes, gave_most, lines_most, reached_read_to}
use Rattle.merge_core.proofs.Many.{Move, each_filter, length_zip}
use Rattle.merge_core.proofs.PairOrder.{below_below, below_upto, from_not_below, not_below_itself, same_from}
use Rattle.query_core.specs.{Passes.IsOfParts, Passes.Took as LinesTaken, Reach.is_within, Reach.pair_after}
use Rattle.query_core.proofs.PageIndexes.{collection_rows}

-- ---- nothing that is wanted stands below the start of a page

then_not_above : (a b : Ordering) → is_gt a ≡ false → is_gt b ≡ false → is_gt (ordering_then a b) ≡ false
then_not_above a b h k = grind arith

-- a pair that isn't above that of a line
not_low : (pair : Pair) (m : Member) → is_gt (pair_cmp pair (member_pair m)) ≡ false → is_low pair m ≡ false
not_low pair m h = grind (arith, pair_cmp_total.antisymm (member_pair m) pair)

digit_least : (b : ℕ) → is_ascii_digit b ≡ true → 48 ≤ b
digit_least b h = grind (arith, nat_tests)

least : (n : ℕ) (s : List ℕ) → length s ≡ n → All (λ b. 48 ≤ b) s → is_gt (slice_cmp nat_cmp (replicate n 48) s) ≡ false
least (suc n) (b ∷ s) e h =
    let k = All-head (λ b. 48 ≤ b) b s h in
    let rest = least n s (omega arith) (All-tail (λ b. 48 ≤ b) b s h) in
    grind arith
least n s e h = grind arith

stamp_not_below : (stamp : List ℕ) → is_stamp stamp ≡ true → is_gt (slice_cmp nat_cmp first_stamp stamp) ≡ false
stamp_not_below stamp h = grind (arith, least, eqb-true, and_parts, digit_least)

later_not_low : (pair : Pair) (from : Option PlaceValue) (m : Member) → is_low pair m ≡ false
    → is_above member_place place_cmp from m ≡ true → is_low (later_pair pair from) m ≡ false
later_not_low pair from m h k = grind arith

-- a line with a stamp that is wanted doesn't stand below the start
start_not_above : (q : QueryValue) (from : Option PlaceValue) (m : Member) → is_stamp m.values.stamp ≡ true
    → is_wanted q from m ≡ true → is_low (start_pair q from) m ≡ false
start_not_above q from m s h =
    later_not_low _ from m (not_low (q.target.text, first_stamp) m
    (grind (arith, then_not_above, match_not_below, and_parts, stamp_not_below))) (grind (arith, and_parts))

-- ---- lines have stamps

stamped : (f : Member → Bool) (xs : List Member) → AllByRecursion (λ m. is_stamp m.values.stamp ≡ true) xs
    → filter (λ m. f m && is_stamp m.values.stamp) xs ≡ filter f xs
stamped f [] h = refl
stamped f (x ∷ xs) h = grind (arith, stamped f xs)

-- ---- what was taken

-- Of these sources lines are taken, from where the search for the page's start ended
module _ {S : Type 0} (device : Ghosts S) (q : QueryValue) (olds : List S) where
  -- they were opened
  pub record Opened (opened : List S) (begun : MergeState) : Type 0 where
    pub kept : map device.text opened ≡ map device.text olds
    pub same : length opened ≡ length begun.cursors.items
    pub found : AreOpened device (start_pair q q.resume) olds (zip opened begun.cursors.items)

  -- these lines were taken, up to the bound
  pub record Reading (opened : List S) (begun : MergeState) (sources : List S) (merge : MergeState) (bound : Option Pair)
      (taken : List Member) : Type 0 where
    pub start : Opened opened begun
    pub reached : Reached (is_past q.target) device opened begun sources merge bound taken

abbrev pub reading : {S : Type 0} {device : Ghosts S} {q : QueryValue} {olds opened sources : List S}
    {begun merge : MergeState} {bound : Option Pair} {taken : List Member} → Opened device q olds opened begun
    → Reached (is_past q.target) device opened begun sources merge bound taken
    → Reading device q olds opened begun sources merge bound taken
reading start reached = record { start = start; reached = reached }

module _ (q : QueryValue) where
  abbrev sought : Member → Bool
  sought m = is_wanted q q.resume m && is_stamp m.values.stamp

module _ {S : Type 0} {device : Ghosts S} {q : QueryValue} {olds opened sources : List S} {begun merge : MergeState}
    {bound : Option Pair} {taken : List Member} (r : Reading device q olds opened begun sources merge bound taken) where
  pub lines_taken : AreLinesOf (map device.text olds) taken
  lines_taken = rw (← r.start.kept) (taken_lines r.reached)

  module _ (texts : List (List ℕ)) (known : Known (map device.text olds) texts) where
    pub known_opened : Known (map device.text opened) texts
    known_opened = rw r.start.kept known

    module _ (indexes : List (List Member)) (are : AllZip (IsIndex LINE_LIMIT) texts indexes) where
      of_all : filter (sought q) (collection indexes) ≡ filter (is_wanted q q.resume) (collection indexes)
      of_all = stamped (is_wanted q q.resume) (collection indexes)
          (each_weaker (λ m row. (entry_valued LINE_LIMIT (line_row m) m row.1).stamp_rule) _
          (collection_rows LINE_LIMIT texts indexes are))

      of_taken : filter (sought q) taken ≡ filter (is_wanted q q.resume) taken
      of_taken = stamped (is_wanted q q.resume) taken
          (each_weaker (λ m h. (entry_valued LINE_LIMIT m.line m h).stamp_rule) taken r.reached.handed.entries)

      pub took_sought : Took (is_past q.target) (sought q) bound merge.queue (collection indexes) taken
      took_sought = took_of_indexes r.reached (past_upward q.target) (sought q) (λ m h. grind arith) _
          (cuts_of device _ olds _ r.start.found) (λ m h. grind (arith, start_not_above, and_parts)) texts indexes
          known_opened are

      -- of all that is wanted, what follows what was taken is so too once it is collapsed
      pub wanted_rest : (A : Member → Type 0) → (rest : List Member)
          × (filter (sought q) (collection indexes) ≡ filter (sought q) taken ++ rest)
          × AllByRecursion (λ m. (sought q m ≡ true) × A m) rest → (rest : List Member)
          × (captures q (collection indexes) ≡ captures q taken ++ rest) × AllByRecursion A rest
      wanted_rest A (rest, split, each) =
          let kept = each_kept member_place place_cmp (same_part q.collapse) place_cmp_total A
          (place_before q q.resume taken) rest (each_weaker (λ m h. h.1) rest each) in
          (_, grind (arith, captures_split, of_all, of_taken), kept)

      -- what was taken is a front of what is wanted
      pub wanted_first : (rest : List Member) × (captures q (collection indexes) ≡ captures q taken ++ rest)
          × AllByRecursion (λ m. IsAbove bound (member_pair m)) rest
      wanted_first = wanted_rest _ (taken_first took_sought)

      -- where no line waits, it is all
      pub wanted_whole : merge.queue ≡ [] → captures q (collection indexes) ≡ captures q taken
      wanted_whole none = rw (← of_all, taken_whole took_sought none, of_taken) refl

-- ---- the range

begins_itself : (text : List ℕ) → begins text text ≡ true
begins_itself [] = refl
begins_itself (b ∷ text) = grind (arith, begins_itself text)

-- a key that isn't past the target, and isn't below it
covered_where_met : (t : TargetValue) (key : List ℕ) → is_past t key ≡ false → is_lt (slice_cmp nat_cmp key t.text)
    ≡ false → covers t key ≡ true
covered_where_met t key past low = grind (arith, slice_cmp-IsAntisymmetric, bytes_eq-Decides, begins_itself)

-- what isn't below a pair that is above this one isn't below this one either
not_low_above : (p q : Pair) (m : Member) → is_gt (pair_cmp p q) ≡ true → is_low p m ≡ false → is_low q m ≡ false
not_low_above p q m e k =
    let high = from_not_below (member_pair m) p k in
    false_from_ne_true (is_low q m) (λ l. not_below_itself (member_pair m) p
    (below_below (member_pair m) q p (is_less _ l) (grind (arith, pair_cmp_total))) high)

not_low_later : (pair : Pair) (from : Option PlaceValue) (m : Member) → is_low (later_pair pair from) m ≡ false
    → is_low pair m ≡ false
not_low_later pair from m h = grind (arith, is_gt, not_low_above)

-- a line of the range that isn't below the start is covered by the target
pub covered_from_start : (q : QueryValue) (from : Option PlaceValue) (m : Member) → is_past q.target m.values.key
    ≡ false → is_low (start_pair q from) m ≡ false → covers q.target m.values.key ≡ true
covered_from_start q from m past low = grind (arith, covered_where_met, nat_cmp, not_low_later)

-- ---- the line that follows a page

past_front : (n : ℕ) (c vs : List Member) (x : Pair) → length c ≤ n → AllByRecursion (λ v. Upto x (member_pair v)) vs
    → is_within (pair_after n (c ++ vs)) x ≡ true
past_front zero [] vs x h k = grind (arith, not)
past_front (suc n) [] [] x h k = refl
past_front (suc n) [] (v ∷ vs) x h k = past_front n [] vs x (omega arith) k.1
past_front zero (c ∷ cs) vs x h k = absurd (omega arith)
past_front (suc n) (c ∷ cs) vs x h k = past_front n cs vs x (omega arith) k

firsts : {X Y : Type 0} (xs : List X) (ys : List Y) → length (zip xs ys) ≡ length xs
    → map (λ (x : X × Y). x.0) (zip xs ys) ≡ xs
firsts [] ys h = refl
firsts {Y = Y} (x ∷ xs) ys h = grind (arith, firsts {Y = Y} xs)

-- ---- lines that were read

module _ (q : QueryValue) (indexes : List (List Member)) where
  -- what is wanted, cut behind the captures of these lines; nothing up to the bound stands above those behind the cut
  pub record Cut (bound : Option Pair) (earlier : List Member) : Type 0 where
    pub back : List Member
    pub whole : captures q (collection indexes) ≡ captures q earlier ++ back
    pub later : (m : Member) → IsUpto bound (member_pair m)
        → AllByRecursion (λ v. Upto (member_pair m) (member_pair v)) back

  module _ (bound : Option Pair) (earlier : List Member) (c : Cut bound earlier) (limit : Option ℕ)
      (most : AreAtMost limit (captures q earlier)) where
    passes : Passes (is_past q.target) (start_pair q q.resume) bound (in_reach q q.resume limit (collection indexes))
    passes = grind (arith, both, covered_from_start, past_front)

module _ {S : Type 0} {device : Ghosts S} {q : QueryValue} {olds opened sources : List S} {begun merge : MergeState}
    {bound : Option Pair} {taken : List Member} (r : Reading device q olds opened begun sources merge bound taken) where
  -- the same over indexes
  abbrev Cuts : Option Pair → List Member → Type 0
  Cuts bound earlier = OverIndexes (map device.text olds) (λ texts indexes. Cut q indexes bound earlier)

  -- all was read
  pub cut_all : merge.queue ≡ [] → Cuts bound taken
  cut_all none = λ texts indexes known are.
      let whole = wanted_whole r texts known indexes are none in
      record { back = []; whole = grind (arith, append-nil); later = grind arith }

  -- behind the lines before the pair that was taken last
  pub cut_last : (pair : Pair) (earlier others : List Member) → bound ≡ Some pair → taken ≡ earlier ++ others
      → AllByRecursion (λ m. Alike (member_pair m) pair) others → Cuts bound earlier
  cut_last pair earlier others bound parts alike = λ texts indexes known are.
      let first = wanted_first r texts known indexes are in
      let group = filter (is_wanted q q.resume) others in
      let p = place_before q q.resume earlier in
      let among = each_filter (λ v. Alike (member_pair v) pair) (is_wanted q q.resume) others alike in
      record {
        back = kept_after q q.resume p group ++ first.0;
        whole = grind (arith, captures_append, append_assoc, kept_after);
        later = λ m upto.
            let A = λ (v : Member). Upto (member_pair m) (member_pair v) in
            let upto_pair = λ (v : Member). upto_upto (member_pair m) pair (member_pair v) (rw bound at upto) in
            each_join A (kept_after q q.resume p group) first.0
            (each_kept member_place place_cmp (same_part q.collapse) place_cmp_total A p group
            (each_weaker (λ v h. upto_pair v (same_from (member_pair v) pair h.0)) group among))
            (each_weaker (λ v h. upto_pair v (below_upto pair (member_pair v) (rw bound at h))) first.0 first.2);
      }

  -- before a pair whose lines couldn't be had or handed on
  pub cut_before : (next : Pair) → IsAbove bound next → NoneBelow next merge.queue → Cuts (Some next) taken
  cut_before next above least = λ texts indexes known are.
      let sought = took_sought r texts known indexes are in
      let before = wanted_rest r texts known indexes are _ (taken_before sought next above least) in
      record {
        back = before.0;
        whole = before.1;
        later = λ m upto. each_weaker (λ v. upto_upto (member_pair m) next (member_pair v) upto) before.0 before.2;
      }

  -- what sources gave that were read up to the bound
  pub gave_upto : (bound : Option Pair) (earlier : List Member) (news : List S) (cs : List CursorState)
      → Cuts bound earlier → AllZip (Move device) (zip opened begun.cursors.items) (zip news cs)
      → length news ≡ length opened
      → OverTexts (map device.text olds) (λ texts. AreReadTo (is_past q.target) device.text bound news cs)
      → GaveFor q (map device.text olds) device earlier olds news
  gave_upto bound earlier news cs cuts moved long reads = λ texts indexes known are limit most.
      let all = AllZip-long (Move device) (zip opened begun.cursors.items) (zip news cs) moved in
      let pass = passes q indexes bound earlier (cuts texts indexes known are) limit most in
      rw (firsts news cs (omega (arith, all, long, length_zip opened begun.cursors.items r.start.same))) at
      (gave_most pass device olds _ (zip news cs) _ _ known are r.start.found moved (reads texts known))

  -- what they gave of which these lines were taken
  pub gave_within : (earlier : List Member) → Cuts bound earlier
      → GaveFor q (map device.text olds) device earlier olds sources
  gave_within earlier cuts = gave_upto bound earlier sources merge.cursors.items cuts r.reached.moved (reached_long r.reached)
      (λ texts known. reached_read_to r.reached texts (known_opened r texts known))

  module _ (lines : ℕ) (counted : lines ≡ min (sum (map (λ (c : CursorState). c.count) merge.cursors.items)) (2 ^ 64 - 1)) where
    -- no more lines were read than are in reach, and one of each index
    pub lines_within : (earlier : List Member) → Cuts bound earlier → ReadFor q (map device.text olds) earlier lines
    lines_within earlier cuts = λ texts indexes known are limit most.
        let there = known_opened r texts known in
        let pass = passes q indexes bound earlier (cuts texts indexes known are) limit most in
        let h = rw cursors_of at (lines_most pass texts (inputs merge) indexes
        (reached_read r.reached texts there) are
        (reached_sought r.reached _ (cuts_of device _ olds _ r.start.found) texts indexes there are)
        (r.reached.handed.told texts there).1) in
        grind (arith, AllZip-long)

    -- of each source consecutive lines were read
    pub of_parts : (all : Bool) → (all ≡ true → merge.queue ≡ [])
        → OverTexts (map device.text olds) (λ texts. IsOfParts q texts taken all lines)
    of_parts all ended = λ texts known.
        let there = known_opened r texts known in
        let read = reached_read r.reached texts there in
        let all_took = took_of_parts r.reached (past_upward q.target) (is_wanted q q.resume) (λ m h. grind arith)
        texts there in
        let found = taken_first all_took in
        let count = rw cursors_of at (parts_count _ texts (inputs merge) read) in
        record {
          parts = parts texts (inputs merge);
          each = λ whole is. parts_are _ texts _ whole read (λ e. rw (ended (is e))
              (none_wait 0 merge.cursors.items));
          count = cc;
          first = (_, captures_split q q.resume _ taken found.0 found.1);
          ended = λ e. ap (kept_after q q.resume q.resume) (taken_whole all_took (ended e));
        }

  -- they are lines of the sources, which over indexes come first
  pub took : (all : Bool) → (all ≡ true → merge.queue ≡ []) → LinesTaken q (map device.text olds) taken all
  took all ended = record {
    lines = lines_taken r;
    first = λ texts indexes known are. let f = wanted_first r texts known indexes are in (f.0, f.1);
    whole = λ e texts indexes known are. wanted_whole r texts known indexes are (ended e);
  }

pub within_opening : {S : Type 0} (device : Ghosts S) (test : Member → Bool)
    (texts : List (List ℕ)) (indexes : List (List Member)) (olds news : List S) → Known (map device.text olds) texts
    → AllZip (IsIndex LINE_LIMIT) texts indexes
    → AllZip (OpenedWithin device) olds news
    → AllGaveWithin device test texts indexes olds news
within_opening device test [] indexes xs ys known are opened = grind arith
within_opening device test (t ∷ ts) indexes xs ys known are opened = grind (arith, within_opening device test ts)
