-- What the first bytes of a line say of its pair.
use Rattle.source_core.proofs.Words.{[], ℕ, ◌++◌, ◌+◌, ◌-◌, ◌<◌, ◌∷◌, ◌≡◌, ◌≤◌, BeginsWith, Bool, List, NoFeed, None}
use Rattle.source_core.proofs.Words.{Option, Pair, PartOf, ReadsOn, Some, after_line, append-nil, arith, drop, drop_all}
use Rattle.source_core.proofs.Words.{is_below, length, line_below, lines, not, option_map, pair_of, refl, stops_lines}
use Rattle.source_core.proofs.Words.{take, take-take, take_all, take_at, true}
use Rattle.std.proofs.Math.Seq.{take-append-add}
use Rattle.cdxj_places.proofs.PairLemmas.{pair_longer}
use Rattle.source_core.proofs.{Parts.ended, Parts.goes_on, Parts.lines_last, Seeks.head_line, Seeks.lines_first}

-- ---- reading on

pub reads_on : (t piece front new : List ℕ) (offset count n : ℕ) (ends : Bool) → take count piece
    ≡ take count (drop (offset + length front) t) → n ≤ count
    → new ≡ front ++ take n piece → length new ≡ length front + n → PartOf (take count piece) n ends
    → BeginsWith t offset front → ReadsOn t offset new ends
reads_on t piece front new offset count n ends bytes inside grown len part b =
    let same : take n (take count piece) ≡ take n piece = take-take n count piece inside in
    let there : (offset + length front) + n ≡ offset + length new = omega arith in
    grind (arith, ended, goes_on)

-- ---- the first line

head_on : (u v : List ℕ) → NoFeed u → head_line (u ++ v) ≡ u ++ head_line v
head_on [] v h = refl
head_on (b ∷ u) v h = grind (arith, head_on u v h.1)

abbrev FirstIs : List ℕ → List ℕ → Type 0
FirstIs s front = (y : List ℕ) × (ls : List (List ℕ)) × (lines s ≡ (front ++ y) ∷ ls)

goes_first : (t : List ℕ) (offset : ℕ) (front : List ℕ) → BeginsWith t offset front → 0 < length front
    → FirstIs (drop offset t) front
goes_first t offset [] b h = absurd (omega arith)
goes_first t offset (x ∷ u) b h =
    let rest = drop (offset + length (x ∷ u)) t in
    (head_line rest, lines (after_line (x ∷ (u ++ rest))), grind (arith, lines_first, head_on (x ∷ u) rest b.goes_on))

reads_first : (t : List ℕ) (offset : ℕ) (front : List ℕ) (ends : Bool) → ReadsOn t offset front ends → 0 < length front
    → FirstIs (drop offset t) front
reads_first t offset front ends r h = grind (arith, append-nil front, goes_first)

-- ---- the answers of a test

module _ (limit : ℕ) (start : Pair) where
  decided_by : (t : List ℕ) (offset : ℕ) (front : List ℕ) (ends below : Bool) (o : Option Pair)
      → ReadsOn t offset front ends → 0 < length front → length front ≤ limit
      → pair_of front ≡ o → Some below ≡ option_map (is_below start) o → not below
      ≡ stops_lines (line_below limit start) (lines (drop offset t))
  unfolding line_below
  decided_by t offset front ends below None r some short e h = absurd (cc)
  decided_by t offset front ends below (Some p) r some short e h =
      let first = reads_first t offset front ends r some in
      let taken : take limit (front ++ first.0) ≡ front ++ take (limit - length front) first.0 =
      grind (arith, take-append-add front first.0 (limit - length front)) in
      let same : below ≡ is_below start p = cc in
      rw (first.2, taken, pair_longer front (take (limit - length front) first.0) p e, same)

  -- the front has a pair, so it isn't empty
  pub decided_at : (t : List ℕ) (offset : ℕ) (front held : List ℕ) (ends below : Bool) → held ≡ front
      → ReadsOn t offset front ends → length front ≤ limit → Some below ≡ option_map (is_below start) (pair_of held)
      → not below ≡ stops_lines (line_below limit start) (lines (drop offset t))
  decided_at t offset [] held ends below same r short h = grind arith
  decided_at t offset (x ∷ u) held ends below same r short h =
      decided_by t offset (x ∷ u) ends below _ r (omega arith) short refl (grind arith)

  pub none_by : (o : Option Pair) → None ≡ option_map (is_below start) o → o ≡ None
  none_by o h = grind arith

  -- the whole line, or as much as is looked at, has none
  pub none_whole : (t : List ℕ) (offset : ℕ) (front : List ℕ) → ReadsOn t offset front true → length front ≤ limit
      → pair_of front ≡ None → true ≡ stops_lines (line_below limit start) (lines (drop offset t))
  unfolding line_below
  none_whole t offset front r short e = grind (arith, take_all)

  pub none_long : (t : List ℕ) (offset : ℕ) (front : List ℕ) → BeginsWith t offset front → 0 < limit → length front
      ≡ limit → pair_of front ≡ None
      → true ≡ stops_lines (line_below limit start) (lines (drop offset t))
  unfolding line_below
  none_long t offset front b some long e = grind (arith, goes_first, take_at)

  pub none_left : (t : List ℕ) (offset : ℕ) (front : List ℕ) → BeginsWith t offset front
      → length t ≤ offset + length front → length front ≤ limit → pair_of front ≡ None
      → true ≡ stops_lines (line_below limit start) (lines (drop offset t))
  unfolding line_below
  none_left t offset [] b end short e = grind (arith, drop_all)
  none_left t offset (x ∷ u) b end short e = grind (arith, drop_all, append-nil, take_all, lines_last)
