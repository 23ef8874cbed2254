-- The steps of a search.
use Rattle.source_core.proofs.Words.{ℕ, ◌+◌, ◌-◌, ◌/◌, ◌<◌, ◌≡◌, ◌≤◌, BeginsAfter, Halved, HalvedIn, IfNone, IfSome}
use Rattle.source_core.proofs.Words.{IsCut, IsIndex, IsStop, List, Member, None, Option, Pair, Some, arith, digits}
use Rattle.source_core.proofs.Words.{drop, drop_all, false, from_line, inr, length, line_below, lines, stops, true}
use Rattle.source_core.specs.declared.seeking.Span.{Span}
use Rattle.source_core.proofs.LongestLines.{far_first, far_here, far_longest}
use Rattle.source_core.proofs.Seeks.{digits_below, from_line_end, half_step}
use Rattle.source_core.proofs.SortedCuts.{begins_there, cut_there, lines_are_short}

-- while offsets are left, so are steps
pub steps_left : (limit : ℕ) (start : Pair) (text : Option (List ℕ)) (extent : ℕ) (s : Span)
    → Halved limit start text extent s → s.low < s.high → s.probes + 1 ≤ digits extent
steps_left limit start text extent s h some = grind (arith, half_step)

module _ (limit : ℕ) (start : Pair) (text : Option (List ℕ)) (extent : ℕ) (s : Span)
    (h : Halved limit start text extent s) (some : s.low < s.high) (middle : ℕ)
    (half : middle ≡ s.low + (s.high - s.low) / 2) (probes : ℕ) (next : probes ≡ s.probes + 1) where
  -- the upper half is left out
  halves : (line : Option ℕ) → IfSome line (λ o. o ≤ extent) → IfNone line (0 < middle) → ((t : List ℕ) → text ≡ Some t
      → HalvedIn limit start extent t (record { low = s.low; high = middle; line = line; probes = probes }))
      → Halved limit start text extent (record { low = s.low; high = middle; line = line; probes = probes })
  halves line there hidden told = let w = half_step (s.high - s.low) h.left.0 h.left.2 (omega arith) in grind arith

  -- the line that begins there isn't below the pair
  pub halves_down : (offset : ℕ) → offset ≤ extent
      → ((t : List ℕ) → text ≡ Some t → (drop offset t ≡ from_line middle t)
      × (stops (line_below limit start) middle t ≡ true))
      → Halved limit start text extent (record { low = s.low; high = middle; line = Some offset; probes = probes })
  halves_down offset inside told = halves (Some offset) inside tt (λ t e. grind (arith, h.told t e))

  -- it is below the pair
  pub halves_up : (offset : ℕ) → middle ≤ offset → offset < s.high
      → ((t : List ℕ) → text ≡ Some t → (drop offset t ≡ from_line middle t) × (drop offset t ≡ from_line offset t)
      × (stops (line_below limit start) middle t ≡ false))
      → Halved limit start text extent (record { low = offset + 1; high = s.high; line = s.line; probes = probes })
  halves_up offset after within told = let w = half_step (s.high - s.low) h.left.0 h.left.2 (omega arith) in grind arith

  -- no line begins there within the limit of a line
  pub halves_hidden : (until : ℕ) → 0 < middle → until ≡ middle + limit → until ≤ s.high
      → ((t : List ℕ) → text ≡ Some t → from_line until t ≡ from_line middle t)
      → Halved limit start text extent (record { low = s.low; high = middle; line = None; probes = probes })
  halves_hidden until later far inside told = halves None tt later (λ t e.
      let d = h.told t e in
      let hidden = far_here limit t middle until far (omega (arith, d.long, h.within)) (told t e) in grind arith)

  -- none begins in the upper half
  pub halves_none : 0 < middle → ((t : List ℕ) → text ≡ Some t → from_line s.high t ≡ from_line middle t)
      → Halved limit start text extent (record { low = s.low; high = middle; line = s.line; probes = probes })
  halves_none later told = halves s.line h.inside (grind arith) (λ t e. grind (arith, h.told t e))

-- before the first step
pub halves_none_yet : (limit : ℕ) (start : Pair) (text : Option (List ℕ)) (extent : ℕ)
    → IfSome text (λ t. length t ≡ extent)
    → Halved limit start text extent (record { low = 0; high = extent; line = Some extent; probes = 0 })
halves_none_yet limit start text extent long = grind (arith, digits_below extent, drop_all, from_line_end)

-- ---- the end

module _ (limit : ℕ) (start : Pair) (text : Option (List ℕ)) (extent offset : ℕ) where
  -- a search is over: the line was found, or it is hidden behind the last one that was below the pair
  pub data IsOver : Type 0 where
    found : (s : Span) → Halved limit start text extent s → s.high ≤ s.low → s.line ≡ Some offset → IsOver
    hidden : (s : Span) → Halved limit start text extent s → s.high ≤ s.low → s.line ≡ None → offset ≡ s.low - 1
        → IsOver

  pub ends_begins : IsOver → (t : List ℕ) → text ≡ Some t → (before : List (List ℕ)) × BeginsAfter t offset before
  ends_begins (found s h end some) t w = let d = h.told t w in grind (arith, begins_there)
  ends_begins (hidden s h end none last) t w = let d = h.told t w in grind (arith, begins_there)

  pub ends_stops : IsOver → (t : List ℕ) → text ≡ Some t → IsStop limit start (lines (drop offset t))
  ends_stops (found s h end some) t w = let d = h.told t w in grind arith
  ends_stops (hidden s h end none last) t w =
      let before : offset ≡ s.high - 1 = omega (arith, h.ordered) in
      inr (rw before (far_first limit t s.high (rw none at h.some) (rw none at (h.told t w).far)))

  pub ends_cut : IsOver → (t : List ℕ) (members : List Member) → text ≡ Some t → IsIndex limit t members
      → IsCut start t members offset
  ends_cut (found s h end some) t members w index = let d = h.told t w in grind (arith, cut_there)
  ends_cut (hidden s h end none last) t members w index =
      let long = far_longest limit t s.high (rw none at h.some) (rw none at (h.told t w).far) in
      grind (arith, lines_are_short)
