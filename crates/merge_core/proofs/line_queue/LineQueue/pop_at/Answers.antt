use Rattle.merge_core.proofs.Words.{arith, length_permutation}
use Rattle.merge_core.proofs.line_queue.LineQueue.pop_at.Goals as goal

pub returns-then-is_next_at-clause-alike : goal.returns-then-is_next_at-clause-alike
returns-then-is_next_at-clause-alike c = grind (arith, length_permutation)
