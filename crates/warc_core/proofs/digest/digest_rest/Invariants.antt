use Rattle.warc_core.specs.ReaderView.{state_of}
use Rattle.warc_core.proofs.OpenLemmas.{left_in}
use Rattle.warc_core.proofs.DigestLemmas.{Digesting}
use Rattle.warc_core.proofs.digest.digest_rest.Given as goal

abbrev pub invariant-pieces : goal.invariant-pieces
invariant-pieces g l =
    Digesting l.start (state_of l.fn.reader (g.I.Input.remaining l.fn.input) (g.I.Input.failures l.fn.input))
    (state_of l.reader (g.I.Input.remaining l.input) (g.I.Input.failures l.input)) l.hasher

abbrev pub decreases-pieces : goal.decreases-pieces
decreases-pieces g l = left_in l.reader.phase
