use Rattle.source_core.proofs.{LongestLines.front_most, Words.arith}
use Rattle.source_core.proofs.seeking.read_to.Goals as goal

pub returns-in_err-ends : goal.returns-in_err-ends
returns-in_err-ends g c = grind (arith, front_most)

pub returns-then-ends : goal.returns-then-ends
returns-then-ends g c = grind (arith, front_most)
