-- Numbers of few digits.
use Rattle.warc_head.proofs.Words.{◌≡◌, ℕ, ◌+◌, ◌-◌, ◌^◌, ◌<◌, ◌≤◌, arith, List, ◌∷◌, length}
use Rattle.std.proofs.Math.Nat.{pow-le-pow_right, one-le-pow}
use Rattle.std.proofs.lemmas.Grind.{pow_more}
use Rattle.std.proofs.Common.{◌*◌, lit<}

-- one digit more
pub digit-more : (n d k : ℕ) → n < 10 ^ k → d ≤ 9 → 10 * n + d < 10 ^ (k + 1)
digit-more n d k h l = let e = pow_more 10 k in omega (arith, e)

-- 19 digits fit
pub few-digits : (n k : ℕ) → k ≤ 19 → n < 10 ^ k → n < 10000000000000000000
few-digits n k h l = grind (arith, pow-le-pow_right)

pub start-small : (k : ℕ) → 0 < 10 ^ k
start-small k = one-le-pow k 10 (lit< tt)

-- the next digit keeps the number small
pub step-small : (n : ℕ) (rest : List ℕ) (d : ℕ) (later : List ℕ) → rest ≡ d ∷ later → d ≤ 57 → length rest ≤ 19
    → n < 10 ^ (19 - length rest)
    → (10 * n + (d - 48) < 10000000000000000000) × (10 * n + (d - 48) < 10 ^ (19 - length later))
step-small n rest d later e a l h =
    let more = digit-more n (d - 48) (19 - length rest) in
    grind (arith, few-digits (10 * n + (d - 48)) (19 - length later))

pub ruleset number_rules = (start-small, step-small)
