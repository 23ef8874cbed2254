use Rattle.warc_head.proofs.Words.{arith, fields_at}
use Rattle.warc_head.specs.Said.{said_of}
use Rattle.warc_head.proofs.UsualLemmas.{head-of}
use Rattle.warc_head.proofs.parts.read_usual_parts.Goals as goal

pub returns-in-Ok-clause-head : goal.returns-in-Ok-clause-head
returns-in-Ok-clause-head c =
    let found = rw c.in-Some.is at c.in_ok-found.ensures in
    head-of c.args.text.now c.in_ok-raw.raw.items c.in-Some.found.size c.in-Some.found.spans.items
    (said_of c.in-Ok.said (fields_at c.in_ok-raw.raw.items c.in-Some.found.spans.items)) (grind arith) found.0 found.1 (grind arith)
