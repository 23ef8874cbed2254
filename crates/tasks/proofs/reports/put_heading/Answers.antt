use Rattle.std.proofs.lemmas.Result.{err_from_is_err_and}
use Rattle.devices.proofs.WritingLemmas.{prefix_longer, prefix_after}
use Rattle.tasks.proofs.reports.put_heading.Goals as goal

pub returns-in_err-put-clause-heading : goal.returns-in_err-put-clause-heading
returns-in_err-put-clause-heading g c =
    let p = err_from_is_err_and c.from_residual.result c.from_residual.ensures.1 in
    rw p.1 (prefix_longer _ _ c.args.name.now _ (rw c.as_bytes.ensures.value at c.in_err-put.ensures.prefix))

pub returns-in_err-put-2-clause-heading : goal.returns-in_err-put-2-clause-heading
returns-in_err-put-2-clause-heading g c =
    let p = err_from_is_err_and c.from_residual-in_err-put-2.result c.from_residual-in_err-put-2.ensures.1 in
    rw p.1 (prefix_after _ _ _ c.args.name.now _ (rw c.as_bytes.ensures.value at c.in_ok-put.ensures.all)
    c.in_err-put-2.ensures.prefix)
