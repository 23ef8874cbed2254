-- What a verification says of a record, and what it counts.
use Rattle.index_core.proofs.Words.{◌≡◌, ℕ, ◌+◌, List, [], ◌∷◌, ◌++◌, length-append, arith}
use Rattle.std.proofs.lemmas.List.Sums.{sum_by-append}
use Rattle.archives.specs.Walking.{Judged}
use Rattle.index_core.specs.Verifying.{differing_by, verification}
use Rattle.index_core.specs.declared.verified.Verified.{Verified}

pub one_judged : (judged : List Judged) (j : Judged) (n d : ℕ)
    → ◌≡◌ {A = Verified} (record { records = n; differing = d }) (verification.tally judged)
    → ◌≡◌ {A = Verified} (record { records = n + 1; differing = d + differing_by j.1 })
    (verification.tally (judged ++ j ∷ []))
one_judged judged j n d k = grind (arith, judged, length-append, sum_by-append)
