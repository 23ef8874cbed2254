use Rattle.warc_core.proofs.Words.{◌-◌, length}
use Rattle.warc_core.specs.ReaderView.{state_of}
use Rattle.warc_core.proofs.FillLemmas.{Filling}
use Rattle.warc_core.proofs.reader.Reader.block_exact.Given as goal

abbrev pub invariant-loop-filled : goal.invariant-loop-filled
invariant-loop-filled g l =
    Filling (length l.fn.piece) (state_of l.fn.self (g.I.Input.remaining l.fn.input) (g.I.Input.failures l.fn.input))
    (state_of l.self (g.I.Input.remaining l.input) (g.I.Input.failures l.input)) l.filled l.piece

abbrev pub decreases-loop-filled : goal.decreases-loop-filled
decreases-loop-filled g l = length l.fn.piece - l.filled
