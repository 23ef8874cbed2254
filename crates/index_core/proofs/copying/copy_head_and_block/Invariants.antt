use Rattle.index_core.proofs.Words.{◌≡◌, prepend_known}
use Rattle.warc_core.specs.ReaderView.{state_of}
use Rattle.warc_core.proofs.OpenLemmas.{left_in}
use Rattle.index_core.specs.Copying.{CopiedBut}
use Rattle.index_core.proofs.copying.copy_head_and_block.Given as goal

abbrev pub invariant-loop-count : goal.invariant-loop-count
invariant-loop-count g l = record {
  copied : CopiedBut (left_in l.reader.phase) l.head (prepend_known l.fn.reader.held (g.I.Input.remaining l.fn.input))
      (state_of l.reader (g.I.Input.remaining l.input) (g.I.Input.failures l.input)) (g.O.Output.written l.fn.out)
      (g.O.Output.written l.out);
  reads : g.I.Input.failures l.input ≡ g.I.Input.failures l.fn.input;
  writes : g.O.Output.failures l.out ≡ g.O.Output.failures l.fn.out;
}

abbrev pub decreases-loop-count : goal.decreases-loop-count
decreases-loop-count g l = left_in l.reader.phase
