use Rattle.merge_core.proofs.Words.{arith, common_steps}
use Rattle.merge_core.proofs.sink.pass_group.Goals as goal

pub returns-in_err-take-in-empty : goal.returns-in_err-take-in-empty
returns-in_err-take-in-empty g c = grind (arith, common_steps)

pub returns-in_err-take_two-in-len1 : goal.returns-in_err-take_two-in-len1
returns-in_err-take_two-in-len1 g c = grind (arith, common_steps)

pub returns-in_ok-take-in-empty : goal.returns-in_ok-take-in-empty
returns-in_ok-take-in-empty g c = grind (arith, common_steps)

pub returns-in_ok-take_two-in-len1 : goal.returns-in_ok-take_two-in-len1
returns-in_ok-take_two-in-len1 g c = grind (arith, common_steps)
