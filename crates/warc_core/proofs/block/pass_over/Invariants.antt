use Rattle.warc_core.proofs.Words.{◌≡◌, prepend_known}
use Rattle.warc_core.proofs.ReadingLemmas.{GoesOn}
use Rattle.warc_core.specs.Reading.{past}
use Rattle.warc_core.proofs.block.pass_over.Given as goal

abbrev pub invariant-loop-left : goal.invariant-loop-left
invariant-loop-left g l = record {
  same : GoesOn (past l.count) (past l.left) (prepend_known l.fn.buffer (g.I.Input.remaining l.fn.input))
      (prepend_known l.buffer (g.I.Input.remaining l.input));
  count : g.I.Input.failures l.input ≡ g.I.Input.failures l.fn.input;
}

abbrev pub decreases-loop-left : goal.decreases-loop-left
decreases-loop-left g l = l.left
