use Rattle.warc_core.proofs.Words.{arith}
use Rattle.warc_core.proofs.RecordLemmas.{after_text-other, after_text-end, after_text-here, after_text-done}
use Rattle.warc_core.proofs.RecordLemmas.{closing-held, here}
use Rattle.warc_core.proofs.closing.expect_closing.Goals as goal

pub returns-then-begins_with_closing : goal.returns-then-begins_with_closing
returns-then-begins_with_closing g c = grind (arith, closing-held)

pub returns-in_default : goal.returns-in_default
returns-in_default g c = grind (arith, here, after_text-other)

pub returns-in_default-2 : goal.returns-in_default-2
returns-in_default-2 g c = grind (arith, here, after_text-end)

pub loop-expected-preserved : goal.loop-expected-preserved
loop-expected-preserved g c = grind (arith, here, after_text-here)

pub returns : goal.returns
returns g c = grind (arith, after_text-done)
