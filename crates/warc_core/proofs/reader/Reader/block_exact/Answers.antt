use Rattle.warc_core.proofs.Words.{ℕ, List, arith}
use Rattle.warc_core.proofs.FillLemmas.{Filling-more, Filling-fault}
use Rattle.warc_core.proofs.reader.Reader.block_exact.Goals as goal

pub returns-in_err-filled : goal.returns-in_err-filled
returns-in_err-filled g c =
    let stopped = λ (whole : List ℕ). Filling-fault _ _ _ _ _ _ _ c.loop-filled.invariant _ whole c.in_err-filled.ensures.open in
    grind arith

pub loop-filled-preserved : goal.loop-filled-preserved
loop-filled-preserved g c =
    Filling-more _ _ _ _ _ _ _ c.loop-filled.invariant _ c.in_ok-filled.ensures.open (omega arith)
