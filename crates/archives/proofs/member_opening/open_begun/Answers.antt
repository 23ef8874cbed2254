use Rattle.gzip_members.specs.Left.{left_of}
use Rattle.gzip_members.specs.Reading.{taken}
use Rattle.archives.proofs.OpeningLemmas.{broken_there, empty_there}
use Rattle.archives.proofs.member_opening.open_begun.Goals as goal

pub returns-in-Ok-None-clause-opens : goal.returns-in-Ok-None-clause-opens
returns-in-Ok-None-clause-opens g c = λ bytes s near.
    let read = c.read_head-members in
    let n = rw (c.in-Ok-None.is, c.in-Ok-None.field-0-is, c.restart.ensures) at read.ensures.next.bytes in
    let e = c.end_empty.ensures in
    empty_there c.args.start bytes (left_of c.args.members) (left_of read.result.members) (taken c.args.members.source)
    (taken read.result.members.source) (taken c.end_empty.result.members.source) s near read.ensures.reads _
    c.end_empty.result.result _ _ n e.moves e.empty e.at e.closes

pub returns-in-Err-clause-opens : goal.returns-in-Err-clause-opens
returns-in-Err-clause-opens g c = λ bytes s near.
    let read = c.read_head-members in
    let n = rw (c.in-Err.is, c.restart.ensures) at read.ensures.next.bytes in
    let e = c.end_empty-in-Err.ensures in
    broken_there c.args.start bytes (left_of c.args.members) (left_of read.result.members) (taken c.args.members.source)
    (taken read.result.members.source) (taken c.end_empty-in-Err.result.members.source) s near read.ensures.reads
    c.in-Err.fault.cause _ c.end_empty-in-Err.result.result _ _ n e.at e.closes
