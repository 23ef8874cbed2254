-- The line that is being read.
use Rattle.std.proofs.Common.{◌≡◌, ℕ, zero, suc, ◌<◌, List, [], ◌∷◌, ◌++◌, length, take, refl, ap, arith, Bool}
use Rattle.std.proofs.Common.{true, false, not, Option, Some, None, append_assoc, append-nil}
use Rattle.devices.specs.LineCuts.{HasNoLineFeed, cut_lines}
use Rattle.devices.specs.LineReading.{TakesPart, TakesLine, LineSoFar}
use Rattle.devices.specs.declared.input_lines.Part.{Part}
use Rattle.devices.specs.declared.input_lines.Part.TheVariants.{Within, Ended, AtEnd}

-- a line that ends with its feed
cut-front : (u v : List ℕ) → HasNoLineFeed u → cut_lines (u ++ 10 ∷ v) ≡ u ∷ cut_lines v
cut-front [] v h = refl
cut-front (b ∷ u) v h = grind (arith, cut-front u v h.1)

-- one that the end cuts
cut-last : (b : ℕ) (u : List ℕ) → HasNoLineFeed (b ∷ u) → cut_lines (b ∷ u) ≡ (b ∷ u) ∷ []
cut-last b [] h = grind arith
cut-last b (c ∷ u) h = grind (arith, cut-last c u h.1)

no_line_feed-append : (u v : List ℕ) → HasNoLineFeed u → HasNoLineFeed v → HasNoLineFeed (u ++ v)
no_line_feed-append [] v h k = k
no_line_feed-append (b ∷ u) v h k = (h.0, no_line_feed-append u v h.1 k)

-- what is held of more
take-more : {X : Type 0} (most : ℕ) (xs ys : List X) → take most (take most xs ++ ys) ≡ take most (xs ++ ys)
take-more zero xs ys = refl
take-more (suc most) [] ys = refl
take-more (suc most) (x ∷ xs) ys = ap (λ l. x ∷ l) (take-more most xs ys)

take-none : (most : ℕ) (xs : List ℕ) → 0 < most → length (take most xs) ≡ 0 → xs ≡ []
take-none most xs some none = grind arith

take-some : (most : ℕ) (xs : List ℕ) → 0 < length (take most xs) → 0 < length xs
take-some most xs some = grind arith

module _ (most : ℕ) where
  last : (seen : List ℕ) → HasNoLineFeed seen → 0 < length seen → cut_lines seen ≡ seen ∷ []
  last [] free some = absurd (omega arith)
  last (b ∷ seen) free some = cut-last b seen free

  pub so_far-last : (before now after : Option (List ℕ)) (line new : List ℕ) → LineSoFar most before now line
      → TakesPart most AtEnd now after line new → 0 < length new → TakesLine most true before after new
  so_far-last None now after line new s p some = tt
  so_far-last (Some text) None after line new s p some = absurd s
  so_far-last (Some text) (Some now) None line new s p some = absurd p
  so_far-last (Some text) (Some now) (Some rest) line new (seen, whole, free, held) (none, end, kept) some =
      grind (arith, append-nil, last, take-some)

  -- the same, where the piece is named by an answer, and what is held by the reader
  module _ (part : Part) (now after : Option (List ℕ)) (line new : List ℕ) (its : ℕ) (same : its ≡ most)
      (takes : TakesPart its part now after line new) (before : Option (List ℕ)) where
    pub after_within : part ≡ Within → LineSoFar most before now line → LineSoFar most before after new
    after_within e s = grind (arith, append_assoc, no_line_feed-append, take-more)

    pub after_ended : part ≡ Ended → LineSoFar most before now line → TakesLine most true before after new
    after_ended e s = grind (arith, append_assoc, cut-front, no_line_feed-append, take-more)

    pub after_end : (empty : Bool) → part ≡ AtEnd → 0 < most → (empty ≡ true → length new ≡ 0)
        → (empty ≡ false → 0 < length new) → LineSoFar most before now line
        → TakesLine most (not empty) before after new
    after_end empty e room none some s = grind (arith, take-none, so_far-last)
