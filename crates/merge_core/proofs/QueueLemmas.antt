-- The first line of the queue, which may be held beside the heap.
use Rattle.merge_core.proofs.Words.{◌∷◌, ◌≡◌, IsPermutation, List, NoneBefore, Ordering, WaitingLine, ap, arith}
use Rattle.merge_core.proofs.Words.{each_weaker, false, is_gt, is_lt, refl, tied_itself, true, turn_cmp}
use Rattle.merge_core.proofs.GroupLemmas.{each_permuted}
use Rattle.merge_core.specs.TurnOrder.{turn_cmp_total}
use Rattle.std.proofs.lemmas.List.Sorted.{IsPermutation-cons, IsPermutation-swap, IsPermutation-trans}
use Rattle.std.specs.Cmp.{IsTotalOrder}
use Rattle.std.specs.Ordering.{is_ge}

not_less_then : {K : Type 0} (R : K → K → Ordering) → IsTotalOrder R → (x y z : K) → is_lt (R x y) ≡ false
    → is_ge (R y z) ≡ true → is_lt (R x z) ≡ false
not_less_then R total x y z h k = grind (arith, total)

-- what isn't after one that none is before, none is before
pub before_all : (w t : WaitingLine) (ws : List WaitingLine) → is_ge (turn_cmp t w) ≡ true → NoneBefore t ws
    → NoneBefore w ws
before_all w t ws h = each_weaker (λ (v : WaitingLine) (k : is_lt (turn_cmp v t) ≡ false). not_less_then turn_cmp turn_cmp_total v t w k h)
    ws

-- nor itself
pub before_itself : (w : WaitingLine) (ws : List WaitingLine) → NoneBefore w ws → NoneBefore w (w ∷ ws)
before_itself w ws h = (ap is_lt (tied_itself turn_cmp_total w), h)

-- ---- with one of two lines more in the heap

-- the first that was there, where the turn of the other comes before it
pub before_changed : (w v : WaitingLine) (us ws : List WaitingLine) → IsPermutation (v ∷ us) ws
    → is_gt (turn_cmp v w) ≡ true → NoneBefore v us → NoneBefore w ws
before_changed w v us ws p h k =
    each_permuted (λ u. is_lt (turn_cmp u w) ≡ false) (v ∷ us) ws p (grind arith, before_all w v us (grind arith) k)

-- the other one
pub before_kept : (w v : WaitingLine) (us ws : List WaitingLine) → IsPermutation (w ∷ us) ws
    → is_gt (turn_cmp v w) ≡ false → NoneBefore v us → NoneBefore v ws
before_kept w v us ws p h k =
    each_permuted (λ u. is_lt (turn_cmp u v) ≡ false) (w ∷ us) ws p (grind (arith, turn_cmp_total), k)

pub beside_kept : (w v : WaitingLine) (us ws : List WaitingLine) → IsPermutation (w ∷ us) ws
    → IsPermutation (w ∷ v ∷ us) (v ∷ ws)
beside_kept w v us ws p =
    IsPermutation-trans (w ∷ v ∷ us) (v ∷ w ∷ us) (v ∷ ws)
    (IsPermutation-swap (w ∷ v ∷ us) (v ∷ w ∷ us) 0 1 (omega arith) (omega arith) refl)
    (IsPermutation-cons v (w ∷ us) ws p)

pub beside_changed : (w v : WaitingLine) (us ws : List WaitingLine) → IsPermutation (v ∷ us) ws
    → IsPermutation (w ∷ v ∷ us) (w ∷ ws)
beside_changed w v us ws p = IsPermutation-cons w (v ∷ us) ws p

pub ruleset beside_rules = (before_changed, before_kept, beside_kept, beside_changed)
