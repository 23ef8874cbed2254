-- Indexes, cut at a pair.
use Rattle.source_core.proofs.Words.{[], ℕ, ◌*◌, ◌++◌, ◌+◌, ◌-◌, ◌<◌, ◌^◌, ◌∙◌, ◌∷◌, ◌≡◌, ◌≤◌, AllByRecursion}
use Rattle.source_core.proofs.Words.{BeginsAfter, Bool, IsCut, IsIndex, IsLeast, List, Member, None, Pair, Some}
use Rattle.source_core.proofs.Words.{and_parts, ap, arith, begins_with_pair, cond, digits, drop, false, flat_map}
use Rattle.source_core.proofs.Words.{flat_map-append, from_line, is_below, is_gt, is_key, is_some_below, key_part}
use Rattle.source_core.proofs.Words.{length, length-append, length-drop, length-take, line_below, line_entry, lines}
use Rattle.source_core.proofs.Words.{longest, map, member_pair, not, pair_cmp, pair_of, refl, stamp_part, stops}
use Rattle.source_core.proofs.Words.{stops_lines, suc, sym, take, take_all, true, zero}
use Rattle.source_core.proofs.Seeks.{BelowFirst, digits_below, from_line_rest, sought}
use Rattle.std.proofs.Math.Pow.{pow_mono}
use Rattle.cdxj_core.proofs.MemberLemmas.{entry_is_short, entry_pair_is}
use Rattle.cdxj_places.specs.Rising.{NeverFalls}
use Rattle.cdxj_places.proofs.PairLemmas.{pair_cmp_total}

-- ---- where lines begin

lines_length : (s : List ℕ) → length (flat_map (λ l. l) (lines s)) ≡ length s
lines_length [] = refl
lines_length (b ∷ bs) = grind (arith, lines_length bs)

pub begins_at : (t : List ℕ) (offset : ℕ) (before : List (List ℕ)) → lines t ≡ before ++ lines (drop offset t)
    → offset ≤ length t → offset ≡ length (flat_map (λ l. l) before)
begins_at t offset before e inside =
    let whole = lines_length t in grind (arith, lines_length, flat_map-append, length-append, length-drop)

pub begins_there : (t : List ℕ) (offset m : ℕ) → drop offset t ≡ from_line m t → offset ≤ length t
    → (before : List (List ℕ)) × BeginsAfter t offset before
begins_there t offset m e inside = let front = from_line_rest m t in grind (arith, begins_at)

-- ---- the order of pairs

-- what is not below a start has nothing below it after it
not_below_later : (start p q : Pair) → is_below start p ≡ false → is_gt (pair_cmp p q) ≡ false → is_below start q
    ≡ false
not_below_later start p q low up = grind (arith, pair_cmp_total.trans p q start, pair_cmp_total.congr p q start)

-- no pair of a line is below a pair of an empty key
none_below_least : (start : Pair) (key stamp : List ℕ) → IsLeast start → is_key key ≡ true
    → is_below start (key, stamp) ≡ false
none_below_least start [] stamp least some = absurd (cc)
none_below_least start (b ∷ bs) stamp least some = rw least refl

not_below_least : (start : Pair) (line : List ℕ) → IsLeast start → is_some_below start (pair_of line) ≡ false
not_below_least start line least = go (begins_with_pair line) refl
  where
    go : (b : Bool) → begins_with_pair line ≡ b
        → is_some_below start (cond b (Some (key_part line, stamp_part line)) None) ≡ false
    go false e = refl
    go true e = grind (arith, and_parts, none_below_least)

pub least_stops : (limit : ℕ) (start : Pair) (ls : List (List ℕ)) → IsLeast start
    → stops_lines (line_below limit start) ls ≡ true
unfolding line_below
least_stops limit start [] least = refl
least_stops limit start (l ∷ ls) least = ap not (not_below_least start (take limit l) least)

-- ---- the pair of a line that has an entry

body_length : (b : Bool) (line : List ℕ) → length line ≤ length (cond b (take (length line - 1) line) line) + 1
body_length b line = grind (arith, length-take)

module _ (limit : ℕ) (start : Pair) where
  entry_below : (line : List ℕ) (m : Member) → line_entry limit line ≡ Some m → line_below limit start line
      ≡ is_below start (member_pair m)
  unfolding line_below
  entry_below line m h =
      rw (take_all limit line (grind (arith, body_length, entry_is_short)), entry_pair_is limit line m h)

  -- these are the entries of the lines
  abbrev Entries : List (List ℕ) → List Member → Type 0
  Entries ls ms = map (line_entry limit) ls ≡ map Some ms

  entries_short : (ls : List (List ℕ)) (ms : List Member) → Entries ls ms → longest ls ≤ limit
  entries_short (l ∷ ls) (m ∷ ms) e = grind (arith, entry_is_short, body_length, entries_short ls ms)
  entries_short ls ms e = grind arith

  pub lines_are_short : (t : List ℕ) (ms : List Member) → IsIndex limit t ms → longest (lines t) ≤ limit
  lines_are_short t ms index = entries_short (lines t) ms index.entries

  later_high : (m : Member) (ls : List (List ℕ)) (ms : List Member) → Entries ls ms
      → AllByRecursion (λ k. is_gt (pair_cmp (member_pair m) (member_pair k)) ≡ false) ms
      → is_below start (member_pair m) ≡ false → AllByRecursion (λ k. line_below limit start k ≡ false) ls
  later_high m (l ∷ ls) (k ∷ ms) e up low =
      (entry_below l k (cc) ∙ not_below_later start (member_pair m) _ low up.0, later_high m ls ms (cc) up.1 low)
  later_high m ls ms e up low = grind arith

  below_first : (ls : List (List ℕ)) (ms : List Member) → Entries ls ms → NeverFalls member_pair pair_cmp ms
      → BelowFirst (line_below limit start) ls
  below_first (l ∷ ls) (m ∷ ms) e n =
      (λ low. later_high m ls ms (cc) n.0 (sym (entry_below l m (cc)) ∙ low), below_first ls ms (cc) n.1)
  below_first ls ms e n = grind arith

  -- where each line is below, or none is, so are the entries
  each_is : (b : Bool) (ls : List (List ℕ)) (ms : List Member) → Entries ls ms
      → AllByRecursion (λ k. line_below limit start k ≡ b) ls
      → AllByRecursion (λ m. is_below start (member_pair m) ≡ b) ms
  each_is b (l ∷ ls) (m ∷ ms) e a = (sym (entry_below l m (cc)) ∙ a.0, each_is b ls ms (cc) a.1)
  each_is b ls [] e a = tt
  each_is b ls ms e a = absurd (cc)

  -- the entries of lines that stand before others
  parts : (before rest : List (List ℕ)) (ms : List Member) → Entries (before ++ rest) ms
      → (low : List Member) × (high : List Member) × (ms ≡ low ++ high) × (length before ≡ length low)
      × Entries before low × Entries rest high
  parts [] rest ms e = ([], ms, refl, refl, refl, e)
  parts (l ∷ before) rest (m ∷ ms) e =
      let others = parts before rest ms (cc) in
      (m ∷ others.0, others.1, ap (λ l. m ∷ l) others.2, ap suc others.3, cc, others.5)
  parts before rest ms e = absurd (cc)

  pub cut_there : (t : List ℕ) (ms : List Member) (r offset : ℕ) → IsIndex limit t ms → offset ≤ length t
      → drop offset t ≡ from_line r t → stops (line_below limit start) r t ≡ true
      → ((k : ℕ) → r ≡ k + 1 → stops (line_below limit start) k t ≡ false) → IsCut start t ms offset
  cut_there t ms r offset index inside from here before =
      let s = sought (line_below limit start) t r (below_first (lines t) ms index.entries index.ordered) here before in
      let halves = parts s.before (lines (from_line r t)) ms (rw s.cut at index.entries) in
      record {
        before = s.before;
        begins = grind (arith, begins_at);
        low = halves.0;
        high = halves.1;
        members_are = halves.2;
        as_many = halves.3;
        all_below = each_is true s.before halves.0 halves.4 s.low;
        none_below = each_is false (lines (from_line r t)) halves.1 halves.5 s.high;
      }

-- ---- the bytes of turns

paid_by : (d extent n : ℕ) → extent < 2 ^ d → n ≤ 8192 → n ≤ extent → n ≤ d * 1024
paid_by zero extent n few most inside = omega arith
paid_by (suc d) extent n few most inside = grind (arith, pow_mono)

-- what is read at once of a source is no more than half of what its turns may read
pub few_are_paid : (extent n : ℕ) → n ≤ 8192 → n ≤ extent → n ≤ digits extent * 1024
few_are_paid extent n most inside = paid_by (digits extent) extent n (digits_below extent).0 most inside
