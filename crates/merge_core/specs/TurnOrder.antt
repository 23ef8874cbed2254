-- The order in which lines take their turn is total.
use Rattle.std.specs.Cmp.{IsTotalOrder}
use Rattle.std.proofs.lemmas.Cmp.{nat_cmp_total, on_total, then_total, back_total}
use Rattle.cdxj_places.proofs.PairLemmas.{pair_cmp_total}
use Rattle.merge_core.specs.WaitingLines.{WaitingLine, waiting_pair, turn_cmp, waiting_cmp}

pub turn_cmp_total : IsTotalOrder turn_cmp
turn_cmp_total = then_total (on_total waiting_pair pair_cmp_total)
    (on_total (λ (w : WaitingLine). w.source) nat_cmp_total)

pub waiting_cmp_total : IsTotalOrder waiting_cmp
waiting_cmp_total = back_total turn_cmp_total
