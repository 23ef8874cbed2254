use Rattle.warc_core.proofs.Words.{arith}
use Rattle.warc_core.proofs.HeadLemmas.{begins_version}
use Rattle.warc_core.proofs.head_text.begins_with_version.Goals as goal

pub returns-then-eq-clause-version : goal.returns-then-eq-clause-version
returns-then-eq-clause-version c h = begins_version c.args.head.now (grind arith)

pub returns-else-eq-clause-version : goal.returns-else-eq-clause-version
returns-else-eq-clause-version c h = begins_version c.args.head.now (grind arith)
