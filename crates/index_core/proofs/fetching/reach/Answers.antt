use Rattle.index_core.proofs.Words.{◌∙◌, HEAD_LIMIT, arith, err_from_is_err_and}
use Rattle.index_core.proofs.FetchLemmas.{WalkedTo-more, ends_before, stops_before}
use Rattle.index_core.proofs.fetching.reach.Goals as goal

pub returns-in_err-head-clause-reaches : goal.returns-in_err-head-clause-reaches
returns-in_err-head-clause-reaches g c =
    let r = c.from_residual in
    let p = err_from_is_err_and r.result r.ensures.1 in
    let i = c.loop-end.invariant in
    let n = c.in_err-head.ensures in
    rw (p.1, p.2) (stops_before HEAD_LIMIT c.loop-end.end c.in_err-head.field-0.0 _ _ _ c.args.offset i.walked
    (rw i.stands.offset_is at n.bytes) (n.state.at ∙ i.stands.offset_is) (omega arith))

pub loop-end-preserved : goal.loop-end-preserved
loop-end-preserved g c = grind (arith, WalkedTo-more)

pub returns-in-None : goal.returns-in-None
returns-in-None g c = grind (arith, ends_before)
