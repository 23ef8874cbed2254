use Rattle.std.proofs.Common.{arith}
use Rattle.clap.proofs.WalkLemmas.{raw_values-rows}
use Rattle.command_line.proofs.matches.values_of.Goals as goal

pub returns : goal.returns
returns c = grind (arith, raw_values-rows)
