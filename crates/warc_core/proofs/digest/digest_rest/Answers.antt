use Rattle.warc_core.proofs.Words.{arith}
use Rattle.warc_core.proofs.DigestLemmas.{Digesting-more, Digesting-fault, Digesting-end}
use Rattle.warc_core.proofs.digest.digest_rest.Goals as goal

pub returns-in_err-count : goal.returns-in_err-count
returns-in_err-count g c =
    let stopped = Digesting-fault _ _ _ _ _ c.pieces.invariant c.block.new.piece _ c.in_err-count.ensures.open in
    grind arith

pub pieces-preserved : goal.pieces-preserved
pieces-preserved g c =
    Digesting-more _ _ _ _ _ c.pieces.invariant c.block.new.piece _ _ c.in_ok-count.ensures.open
    c.update-in-pieces.ensures

pub returns : goal.returns
returns g c =
    let none = rw c.if-count-eq0.true at c.in_ok-count.ensures.open in
    Digesting-end _ _ _ _ _ c.pieces.invariant c.block.new.piece _ (omega arith) none c.finalize.ensures
