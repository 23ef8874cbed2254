use Rattle.merge_core.proofs.{PairOrder.begins, Words.arith}
use Rattle.merge_core.proofs.pair_start.pair_bytes.Goals as goal

pub slice_bounds-result-end : goal.slice_bounds-result-end
slice_bounds-result-end c = grind (arith, begins c.line.result.now c.args.line.now c.line.ensures.entry)

pub returns : goal.returns
returns c = grind (arith, begins c.line.result.now c.args.line.now c.line.ensures.entry)
