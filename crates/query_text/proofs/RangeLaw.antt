-- The keys past a target's range are upward closed.
use Rattle.std.proofs.Common.{◌≡◌, ℕ, ◌<◌, ◌⊎◌, ⊎_elim, true, false, List, [], ◌∷◌, nat_eq, bytes_eq, refl, sym}
use Rattle.std.proofs.Common.{◌∙◌, arith, rules, tests}
use Rattle.std.specs.declared.cmp.Ordering.{Ordering}
use Rattle.std.specs.Ordering.{nat_cmp, is_gt, ordering_then}
use Rattle.std.specs.Cmp.Lexicographic.{slice_cmp}
use Rattle.std.proofs.lemmas.Slice.Eq.{bytes_eq-Decides}
use Rattle.std.proofs.lemmas.Bool.{eq-eqb, eqb-true, and_parts, true≢false}
use Rattle.query_text.specs.declared.target.MatchKind.{MatchKind}
use Rattle.query_text.specs.declared.target.MatchKind.TheVariants.{Exact}
use Rattle.query_text.specs.Targets.{TargetValue}
use Rattle.query_text.specs.Matching.{begins, kind_covers, covers, key_matches, is_past}

-- the greater of two texts begins with the greater number, or goes on with the greater text
above_first : (x y : ℕ) (o : Ordering) → is_gt (ordering_then (nat_cmp x y) o) ≡ true → (y < x)
    ⊎ ((x ≡ y) × (is_gt o ≡ true))
above_first x y o h = grind arith

not_above_first : (x y : ℕ) (o : Ordering) → is_gt (ordering_then (nat_cmp x y) o) ≡ false → (x < y)
    ⊎ ((x ≡ y) × (is_gt o ≡ false))
not_above_first x y o h = grind arith

above_now : (x y : ℕ) (o : Ordering) → y < x → is_gt (ordering_then (nat_cmp x y) o) ≡ true
above_now x y o l = grind arith

above_on : (x y : ℕ) (o : Ordering) → x ≡ y → is_gt o ≡ true → is_gt (ordering_then (nat_cmp x y) o) ≡ true
above_on x y o e h = grind arith

-- what is not below a text that stands above a front stands above it too
pub above_later : (front key later : List ℕ) → is_gt (slice_cmp nat_cmp key front) ≡ true
    → is_gt (slice_cmp nat_cmp key later) ≡ false
    → is_gt (slice_cmp nat_cmp later front) ≡ true
above_later [] [] later above below = search (rules, tests)
above_later [] (k ∷ key) later above below = grind (arith, tests)
above_later (f ∷ front) [] later above below = search (rules, tests)
above_later (f ∷ front) (k ∷ key) [] above below = search (rules, tests)
above_later (f ∷ front) (k ∷ key) (l ∷ later) above below =
    let rest = slice_cmp nat_cmp later front in
    ⊎_elim
    (λ p. grind (arith, ⊎_elim, above_now, not_above_first))
    (λ p. ⊎_elim (λ q. above_now l f rest (omega (arith, p.0, q)))
    (λ q. above_on l f rest (sym q.0 ∙ p.0) (above_later front key later p.1 q.1)) (not_above_first k l _ below))
    (above_first k f _ above)

-- a text above a front, and not above one that begins with it, begins with it too
pub begins_between : (front key later : List ℕ) → is_gt (slice_cmp nat_cmp key front) ≡ true
    → is_gt (slice_cmp nat_cmp key later) ≡ false
    → begins front later ≡ true → begins front key ≡ true
begins_between [] key later above below starts = refl
begins_between (f ∷ front) [] later above below starts = search (rules, tests)
begins_between (f ∷ front) (k ∷ key) [] above below starts = search (rules, tests)
begins_between (f ∷ front) (k ∷ key) (l ∷ later) above below starts =
    let parts : (nat_eq f l ≡ true) × (begins front later ≡ true) = search (rules, tests) in
    let same : f ≡ l = eqb-true f l parts.0 in
    ⊎_elim
    (λ p. ⊎_elim (λ q. absurd (omega (arith, p, q, same))) (λ q. absurd (omega (arith, p, q.0, same)))
    (not_above_first k l _ below))
    (λ p. ⊎_elim (λ q. absurd (omega (arith, p.0, q, same)))
    (λ q. let first = eq-eqb f k (sym p.0) in
    let later' = begins_between front key later p.1 q.1 parts.1 in
    rw (first, later') refl) (not_above_first k l _ below))
    (above_first k f _ above)

not_above_itself : (text : List ℕ) → is_gt (slice_cmp nat_cmp text text) ≡ false
not_above_itself [] = refl
not_above_itself (b ∷ bytes) = grind (arith, not_above_itself bytes)

-- a front is not above what begins with it
front_not_above : (front key : List ℕ) → begins front key ≡ true → is_gt (slice_cmp nat_cmp front key) ≡ false
front_not_above [] key starts = grind arith
front_not_above (f ∷ front) [] starts = search (rules, tests)
front_not_above (f ∷ front) (k ∷ key) starts =
    let parts : (nat_eq f k ≡ true) × (begins front key ≡ true) = search (rules, tests) in
    grind (arith, front_not_above front key parts.1)

-- the range covers no key above the text that is the only one it covers
never_above : (text later : List ℕ) → is_gt (slice_cmp nat_cmp later text) ≡ true → bytes_eq later text ≡ true → ⊥
never_above text later above same = grind (arith, bytes_eq-Decides, not_above_itself)

covers_back : (kind : MatchKind) (text key later : List ℕ) → is_gt (slice_cmp nat_cmp key text) ≡ true
    → is_gt (slice_cmp nat_cmp key later) ≡ false
    → kind_covers kind text later ≡ true → kind_covers kind text key ≡ true
covers_back Exact text key later above below covered = absurd
    (never_above text later (above_later text key later above below) covered)
covers_back kind text key later above below covered = grind (arith, begins_between)

-- the keys of a range are not below its target
pub covered_not_below : (t : TargetValue) (key : List ℕ) → covers t key ≡ true → is_gt (slice_cmp nat_cmp t.text key)
    ≡ false
covered_not_below t key h = grind (arith, bytes_eq-Decides, not_above_itself, front_not_above)

pub match_not_below : (t : TargetValue) (key : List ℕ) → key_matches t key ≡ true → is_gt (slice_cmp nat_cmp t.text key)
    ≡ false
match_not_below t key h = covered_not_below t key (and_parts _ _ h).0

-- what is not below a key past the range is past it too
pub past_upward : (t : TargetValue) (key later : List ℕ) → is_past t key ≡ true → is_gt (slice_cmp nat_cmp key later)
    ≡ false → is_past t later ≡ true
past_upward t key later past below = grind (arith, above_later, covers_back, true≢false)
