use Rattle.std.proofs.Common.{arith}
use Rattle.capture_core.proofs.SpellingLemmas.{entry_read}
use Rattle.capture_core.proofs.held_line.HeldLine.entry.Goals as goal

pub returns : goal.returns
returns c = grind (arith, entry_read)
