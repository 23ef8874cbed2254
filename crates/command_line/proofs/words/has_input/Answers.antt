use Rattle.std.proofs.Common.{arith}
use Rattle.command_line.proofs.Finding.{any_found}
use Rattle.command_line.proofs.words.has_input.Goals as goal

pub returns : goal.returns
returns c = grind (arith, any_found)
