use Rattle.warc_core.proofs.Words.{arith}
use Rattle.warc_core.proofs.RecordLemmas.{after_block-short}
use Rattle.warc_core.proofs.block.give_block.Goals as goal

pub returns-then-count-eq0-clause-bytes : goal.returns-then-count-eq0-clause-bytes
returns-then-count-eq0-clause-bytes g c = grind (arith, after_block-short)
