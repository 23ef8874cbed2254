use Rattle.merge_core.proofs.Words.{◌≡◌, IsStart, member_pair, ordering_then, pair_cmp, subst, sym}
use Rattle.merge_core.proofs.PairOrder.{decided, starts_decide}
use Rattle.merge_core.proofs.keyed_line.KeyedLine.compare_pair.Goals as goal

pub returns-in_default : goal.returns-in_default
returns-in_default c =
    let pair = member_pair c.args.self.now in let other = member_pair c.args.other.now in
    let mine = subst (λ m. IsStart c.self.inside.pair_start (member_pair m)) c.self.view_is c.self.invariant in
    let its = subst (λ m. IsStart c.other.inside.pair_start (member_pair m)) c.other.view_is c.other.invariant in
    let by = starts_decide pair other c.self.inside.pair_start c.other.inside.pair_start mine its in
    decided c.cmp.result (pair_cmp pair other) c.in_default.not-Equal
    (subst (λ o. ordering_then o (pair_cmp pair other) ≡ pair_cmp pair other) (sym c.cmp.ensures) by)
