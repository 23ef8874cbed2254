use Rattle.merge_core.proofs.Words.{◌≡◌, vec_len}
use Rattle.merge_core.proofs.state.MergeState.recycle.Given as goal

abbrev pub invariant-loop-line : goal.invariant-loop-line
invariant-loop-line l = record {
  kept : l.self ≡ record l.fn.self { buffers = l.self.buffers; most_lines = l.self.most_lines };
  most_lines : l.self.most_lines ≡ l.initial.self.most_lines;
}

abbrev pub decreases-loop-line : goal.decreases-loop-line
decreases-loop-line l = vec_len l.rest
