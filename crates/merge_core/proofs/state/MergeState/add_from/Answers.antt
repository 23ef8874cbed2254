use Rattle.merge_core.proofs.Words.{arith}
use Rattle.merge_core.proofs.state.MergeState.add_from.Goals as goal

pub returns-clause-added : goal.returns-clause-added
returns-clause-added g c = grind arith
