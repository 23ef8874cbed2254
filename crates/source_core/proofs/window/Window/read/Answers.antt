use Rattle.source_core.proofs.Words.{arith, common_steps}
use Rattle.source_core.proofs.window.Window.read.Goals as goal

pub invariant_of-self : goal.invariant_of-self
invariant_of-self g c = grind (arith, common_steps)

pub invariant_of-self-2 : goal.invariant_of-self-2
invariant_of-self-2 g c = grind (arith, common_steps)

pub returns : goal.returns
returns g c = grind (arith, common_steps)
