-- Bytes of a file that are passed over.
use Rattle.std.proofs.Common.{◌≡◌, ℕ, ◌-◌, ◌≤◌, List, ◌++◌, Option, None, Some, length, drop}
use Rattle.std.proofs.Common.{ap, ◌∙◌, arith}
use Rattle.std.proofs.Math.Seq.{drop-append-add}
use Rattle.std.specs.Io.KnownBytes.{Consumes}

-- what is behind n bytes of the one is behind m bytes of the other
abbrev pub GoesPast : ℕ → ℕ → Option (List ℕ) → Option (List ℕ) → Type 0
GoesPast n m None after = Unit {0}
GoesPast n m (Some bytes) None = ⊥
GoesPast n m (Some bytes) (Some rest) = drop n bytes ≡ drop m rest

past-piece : (m : ℕ) (given rest : List ℕ) → length given ≤ m → drop m (given ++ rest) ≡ drop (m - length given) rest
past-piece m given rest l = grind (arith, drop-append-add)

pub past-more : (n m k : ℕ) (known mid after : Option (List ℕ)) (given : List ℕ) → GoesPast n m known mid
    → Consumes mid after given → length given ≡ k → k ≤ m → GoesPast n (m - k) known after
past-more n m k None mid after given g c e l = tt
past-more n m k (Some bytes) None after given g c e l = absurd g
past-more n m k (Some bytes) (Some rest) None given g c e l = absurd c
past-more n m k (Some bytes) (Some rest) (Some more) given g c e l =
    g ∙ (ap (drop m) c ∙ (past-piece m given more (omega arith) ∙ ap (λ (j : ℕ). drop (m - j) more) e))
