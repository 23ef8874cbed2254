use Rattle.std.proofs.Common.{◌≡◌, subst}
use Rattle.devices.specs.Device.{AppendsPrefix}
use Rattle.tasks.specs.Checks.{count_text}
use Rattle.std.proofs.lemmas.Result.{err_from_is_err_and}
use Rattle.devices.proofs.WritingLemmas.{prefix_longer, prefix_after}
use Rattle.tasks.proofs.checks.put_count.Goals as goal

pub returns-in_err-put-clause-line : goal.returns-in_err-put-clause-line
returns-in_err-put-clause-line g c =
    let p = err_from_is_err_and c.from_residual.result c.from_residual.ensures.1 in
    rw p.1 (prefix_longer _ _ c.args.name.now _ (rw c.as_bytes.ensures.value at c.in_err-put.ensures.prefix))

pub returns-in_err-put-2-clause-line : goal.returns-in_err-put-2-clause-line
returns-in_err-put-2-clause-line g c =
    let p = err_from_is_err_and c.from_residual-in_err-put-2.result c.from_residual-in_err-put-2.ensures.1 in
    let text : c.as_bytes-2.result.now ≡ count_text c.args.count = cc in
    let written = subst (AppendsPrefix (g.O.Output.written c.put.new.out) (g.O.Output.written c.put-2.new.out)) text
    c.in_err-put-2.ensures.prefix in
    rw p.1 (prefix_after _ _ _ c.args.name.now _ (rw c.as_bytes.ensures.value at c.in_ok-put.ensures.all) written)
