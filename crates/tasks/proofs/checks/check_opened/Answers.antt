use Rattle.std.proofs.Common.{Err, refl}
use Rattle.tasks.proofs.checks.check_opened.Goals as goal

pub returns-in-Ok-clause-checks : goal.returns-in-Ok-clause-checks
returns-in-Ok-clause-checks g c =
    rw c.in-Ok.is (record {
      answer = Err c.in-Err-check.fault;
      size = g.S.Source.extent c.in-Ok.source;
      checked = c.in-Err-check.ensures.checked;
      fault = c.in-Err-check.ensures.fault;
      written = (refl, refl);
    })
