use Rattle.source_core.proofs.Words.{arith}
use Rattle.source_core.proofs.RememberedLemmas.{bytes_read}
use Rattle.source_core.proofs.remembering.RememberingSourceSource.read_at.Goals as goal

pub invariant_of-self-2 : goal.invariant_of-self-2
invariant_of-self-2 g c =
    let ok = c.in_ok-count.ensures in
    let kept = c.self.invariant.1 in
    let read = bytes_read _ _ c.args.at c.in_ok-count.count c.read_at.new.piece (grind arith) (grind arith) (grind arith)
    ok.inside ok.bytes in
    rw ok.text (c.self.invariant.0, c.keep.ensures _ kept (c.in-Some.ensures _ _ read))
