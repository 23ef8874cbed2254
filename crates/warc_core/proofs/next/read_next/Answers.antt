use Rattle.warc_core.proofs.Words.{arith, HEAD_LIMIT}
use Rattle.std.proofs.lemmas.Result.{err_from_is_err_and}
use Rattle.warc_core.proofs.NextLemmas.{next-stopped, next-head}
use Rattle.warc_core.proofs.next.read_next.Goals as goal

pub returns-in_err-read_head-clause-bytes : goal.returns-in_err-read_head-clause-bytes
returns-in_err-read_head-clause-bytes g c =
    let p = err_from_is_err_and c.from_residual-in_err-read_head.result c.from_residual-in_err-read_head.ensures.1 in
    rw (p.1, p.2) (next-stopped HEAD_LIMIT c.args.start _ _ c.fill.new.self
    (grind arith) c.in_err-read_head.field-0.0 _ (grind (arith)) c.in_err-read_head.ensures.bytes)

pub returns-clause-bytes : goal.returns-clause-bytes
returns-clause-bytes g c = next-head HEAD_LIMIT _ _ _ _ (grind arith) _ _ (grind arith) c.in_ok-read_head.ensures.bytes
