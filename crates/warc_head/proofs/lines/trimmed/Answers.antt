use Rattle.warc_head.proofs.Words.{arith}
use Rattle.warc_head.proofs.TrimLemmas.{is_trimmed}
use Rattle.warc_head.proofs.lines.trimmed.Goals as goal

pub returns : goal.returns
returns c = grind (arith, is_trimmed)
