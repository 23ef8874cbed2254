use Rattle.std.proofs.Common.{arith}
use Rattle.capture_core.proofs.GoodEntries.{text_is_filled}
use Rattle.capture_core.proofs.entry_line.entry_line.Goals as goal

pub plain_line-requires-clause-filled : goal.plain_line-requires-clause-filled
plain_line-requires-clause-filled c = grind (arith, text_is_filled)

pub line_of_texts-requires-clause-filled : goal.line_of_texts-requires-clause-filled
line_of_texts-requires-clause-filled c = grind (arith, text_is_filled)
