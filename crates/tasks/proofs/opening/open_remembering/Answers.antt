use Rattle.std.proofs.Common.{arith, sym}
use Rattle.std.proofs.lemmas.Result.{err_from_is_err_and}
use Rattle.tasks.proofs.FailedNames.{unopened_index}
use Rattle.tasks.proofs.opening.open_remembering.Goals as goal

pub returns-in_err-index : goal.returns-in_err-index
returns-in_err-index g c =
    let failed = unopened_index (g.F.Opener.index_failed c.args.files.now) c.args.names.now c.loop-name.name-index
    c.name-item.result c.deref.result.now c.loop-name-test.true (sym c.name-item.is) c.deref.ensures
    c.in_err-index.field-0.0 c.in_err-index.ensures in
    grind (arith, err_from_is_err_and)
