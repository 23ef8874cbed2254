-- The first CR LF CR LF.
use Rattle.warc_core.proofs.Words.{◌≡◌, ℕ, ◌+◌, ◌-◌, ◌<◌, ◌≤◌, true, false, List, [], ◌∷◌, length}
use Rattle.warc_core.proofs.Words.{take, drop, get_or, ap, arith, length-drop, ◌++◌, length-append}
use Rattle.warc_core.proofs.Words.{length-take-le, take-append-drop, is_closed, closing}
use Rattle.std.proofs.Common.{lit<}
use Rattle.std.proofs.lemmas.List.{get_or-drop, get_or-take}
use Rattle.memchr.specs.Find.{OccursAt}
use Rattle.warc_core.specs.HeadText.{ClosesFirst, IsOpenAfter}

-- four bytes that are CR LF CR LF
four : (d : List ℕ) → length d ≡ 4 → get_or d 0 0 ≡ 13 → get_or d 1 0 ≡ 10 → get_or d 2 0 ≡ 13 → get_or d 3 0 ≡ 10 → d
    ≡ closing
four (a ∷ b ∷ c ∷ d ∷ []) l p q r s = grind arith
four xs l p q r s = grind arith

-- what ends with CR LF CR LF has it as its last four bytes
pub closed-last : (text : List ℕ) → is_closed text ≡ true → drop (length text - 4) text ≡ closing
closed-last text h = grind arith

-- a front that ends so
closed-occurs : (xs : List ℕ) (n : ℕ) → n ≤ length xs → is_closed (take n xs) ≡ true → (4 ≤ n)
    × OccursAt xs closing (n - 4)
closed-occurs xs n l h = grind (arith, length-take-le, closed-last, get_or-take, get_or-drop)

occurs-closed : (xs : List ℕ) (k : ℕ) → OccursAt xs closing k → is_closed (take (k + 4) xs) ≡ true
occurs-closed xs k h =
    let size = length-take-le (k + 4) xs h.fits in
    grind (arith, length-drop k (take (k + 4) xs), get_or-drop, get_or-take, four, lit<)

-- behind a place
occurs-behind : (xs : List ℕ) (from k : ℕ) → from ≤ length xs → OccursAt xs closing (from + k)
    → OccursAt (drop from xs) closing k
occurs-behind xs from k l h = grind (arith, length-drop, get_or-drop)

pub occurs-before : (xs : List ℕ) (from k : ℕ) → from ≤ length xs → OccursAt (drop from xs) closing k
    → OccursAt xs closing (from + k)
occurs-before xs from k l h = grind (arith, length-drop, get_or-drop)

-- a text that begins with it from a place on
pub begins-occurs : (xs : List ℕ) (at : ℕ) → at ≤ length xs → drop at xs ≡ closing ++ drop 4 (drop at xs)
    → OccursAt xs closing at
begins-occurs xs at l e =
    let n = ap length e in
    grind (arith, length-append, length-drop, get_or-drop)

pub occurs-begins : (xs : List ℕ) (at : ℕ) → OccursAt xs closing at → drop at xs ≡ closing ++ drop 4 (drop at xs)
occurs-begins xs at h = grind (arith, get_or-drop, four, length-take-le, lit<, take-append-drop)

-- no CR LF CR LF begins from three bytes before the first place to the second
abbrev pub NoneBetween : List ℕ → ℕ → ℕ → Type 0
NoneBetween xs before at = (k : ℕ) → before - 3 ≤ k → k < at → OccursAt xs closing k → ⊥

module _ (xs : List ℕ) (before at : ℕ) (early : NoneBetween xs before at) where
  -- no front ends there
  open-below : (n : ℕ) → before < n → n ≤ length xs → n < at + 4 → is_closed (take n xs) ≡ false
  open-below n b w u = grind (arith, closed-occurs, early (n - 4))

  pub found-first : before - 3 ≤ at → OccursAt xs closing at → ClosesFirst xs before (at + 4)
  found-first from h =
      let c = occurs-closed xs at h in
      grind (arith, open-below)

  pub found-none : at ≡ length xs → IsOpenAfter xs before
  found-none e n b w = open-below n b w (omega arith)

  -- nor in the text behind it
  pub none-behind : (end : ℕ) → at ≤ length xs → ((k : ℕ) → k < end → OccursAt (drop at xs) closing k → ⊥)
      → NoneBetween xs before (at + end)
  none-behind end l late k from below h = grind (arith, early k, late (k - at), occurs-behind xs at (k - at))

  -- nor at the places that a step passes over
  pub none-in-run : (run : ℕ)
      → ((k : ℕ) → k < run → get_or xs (at + k + 1) 0 ≡ 10 → get_or xs (at + k + 3) 0 ≡ 10 → ⊥)
      → NoneBetween xs before (at + run)
  none-in-run run late k from below h = grind (arith, early k, late (k - at), lit<)

  -- nor at the place after them
  pub none-at : (OccursAt xs closing at → ⊥) → NoneBetween xs before (at + 1)
  none-at here k from below h = grind (arith, early k)
