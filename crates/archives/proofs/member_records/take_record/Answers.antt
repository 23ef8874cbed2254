use Rattle.std.specs.Prelude.{⊤}
use Rattle.gzip_members.specs.Left.{left_of}
use Rattle.gzip_members.specs.Reading.{taken}
use Rattle.archives.proofs.PlainLemmas.{some_of}
use Rattle.archives.proofs.RecordLemmas.{counts_closed, member_fails, record_fails, record_there}
use Rattle.archives.proofs.member_records.take_record.Goals as goal

pub returns-in-Ok-end_record-clause-takes : goal.returns-in-Ok-end_record-clause-takes
returns-in-Ok-end_record-clause-takes g c = λ bytes holds.
    let read = c.finish-members in
    let e = c.in-Ok-end_record.ensures in
    let mid = read.result.members in
    record_there c.args.opened.start bytes c.args.opened.head (left_of c.args.members) (left_of mid)
    (taken c.args.members.source) (taken mid.source) (taken c.end_record.new.members.source) read.new.reader.held _
    holds read.ensures.reads c.in-Ok-end_record.place (λ r. ⊤) e.moves (rw c.in-Ok.is at read.ensures.rest) e.place
    e.closes (some_of _ (λ text. tt))

pub returns-in-Err-end_record-clause-takes : goal.returns-in-Err-end_record-clause-takes
returns-in-Err-end_record-clause-takes g c = λ bytes holds.
    let read = c.finish-members in
    let e = c.in-Err-end_record.ensures in
    let mid = read.result.members in
    member_fails c.args.opened.start bytes c.args.opened.head (left_of c.args.members) (left_of mid)
    (taken c.args.members.source) (taken mid.source) (taken c.end_record.new.members.source) read.new.reader.held _
    holds read.ensures.reads c.in-Err-end_record.fault e.at (rw c.in-Ok.is at read.ensures.rest) e.closes

pub returns-in-Err-clause-takes : goal.returns-in-Err-clause-takes
returns-in-Err-clause-takes g c = λ bytes holds.
    let read = c.finish-members in
    let e = c.end_fault-fault in
    let mid = read.result.members in
    record_fails c.args.opened.start bytes c.args.opened.head (left_of c.args.members) (left_of mid)
    (taken c.args.members.source) (taken mid.source) (taken e.new.members.source) read.new.reader.held _
    holds read.ensures.reads c.in-Err.fault.cause e.result e.ensures.at (rw c.in-Err.is at read.ensures.rest)
    e.ensures.closes

pub returns-in-Err-clause-failures : goal.returns-in-Err-clause-failures
returns-in-Err-clause-failures g c =
    counts_closed c.in-Err.fault.cause c.end_fault-fault.result.cause _ _ _
    (rw c.in-Err.is at c.finish-members.ensures.failures) c.end_fault-fault.ensures.failures
