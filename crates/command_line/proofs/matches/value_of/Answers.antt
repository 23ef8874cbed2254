use Rattle.std.proofs.Common.{arith}
use Rattle.clap.proofs.WalkLemmas.{first_value-rows}
use Rattle.command_line.proofs.matches.value_of.Goals as goal

pub returns : goal.returns
returns c = grind (arith, first_value-rows)
