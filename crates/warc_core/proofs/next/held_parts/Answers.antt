use Rattle.warc_core.proofs.Words.{arith, length, take-append-drop, HEAD_LIMIT}
use Rattle.warc_core.proofs.GatherLemmas.{usual-found}
use Rattle.warc_core.proofs.HeldLemmas.{first-line}
use Rattle.warc_core.proofs.PartsLemmas.{read-ok}
use Rattle.warc_core.proofs.next.held_parts.Goals as goal

pub read_usual_parts-requires : goal.read_usual_parts-requires
read_usual_parts-requires c = grind (arith, first-line)

pub returns-in-Some-clause-head : goal.returns-in-Some-clause-head
returns-in-Some-clause-head c =
    let head = rw c.in-Some.is at c.in_ok-parts.ensures.head in
    rw head.front
    (usual-found HEAD_LIMIT (length c.in-Some.parts.raw) c.as_slice-held.result.now (grind arith) head.closes (grind arith))

pub returns-in-Some-clause-says : goal.returns-in-Some-clause-says
returns-in-Some-clause-says c = grind (arith, read-ok)

pub returns-in-Some-clause-taken : goal.returns-in-Some-clause-taken
returns-in-Some-clause-taken c = grind (arith, take-append-drop)
