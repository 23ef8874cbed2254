use Rattle.std.proofs.Common.{arith, vec_len}
use Rattle.std.proofs.lemmas.Bool.{eqb-false}
use Rattle.devices.proofs.InputLineLemmas.{after_within, after_ended, after_end}
use Rattle.devices.proofs.input_lines.InputLines.next.Goals as goal

pub loop-self-preserved : goal.loop-self-preserved
loop-self-preserved g c = grind (arith, after_within)

pub returns-in-Ended : goal.returns-in-Ended
returns-in-Ended g c = grind (arith, after_ended)

pub returns-in-AtEnd-clause-line : goal.returns-in-AtEnd-clause-line
returns-in-AtEnd-clause-line g c = grind (arith, after_end, vec_len, eqb-false)
