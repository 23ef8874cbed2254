use Rattle.warc_core.proofs.Words.{arith}
use Rattle.warc_core.proofs.block_check.block_digest.Goals as goal

pub returns-in-Some-sha1_text : goal.returns-in-Some-sha1_text
returns-in-Some-sha1_text g c = rw (c.in-Some.ensures, c.in-Some-sha1_text.ensures) (grind arith)

pub returns-in-None-sha1_text : goal.returns-in-None-sha1_text
returns-in-None-sha1_text g c = rw (c.in-Some.ensures, c.in-None-sha1_text.ensures) (grind arith)

pub returns-in-None : goal.returns-in-None
returns-in-None g c = rw c.in-None.ensures (grind arith)
