use Rattle.std.proofs.Common.{◌≡◌}
use Rattle.warc_core.specs.declared.next.TheConstants.{HEAD_LIMIT}
use Rattle.gzip_members.specs.Left.{left_of}
use Rattle.gzip_members.specs.Reading.{taken}
use Rattle.archives.specs.Walking.{verdict_in}
use Rattle.archives.proofs.VerdictLemmas.{judged_met, judged_read, judged_verdict}
use Rattle.archives.proofs.RecordLemmas.{counts_closed, member_fails, record_fails, record_there}
use Rattle.archives.proofs.member_records.take_verdict.Goals as goal

pub returns-in-Ok-end_record-clause-takes : goal.returns-in-Ok-end_record-clause-takes
returns-in-Ok-end_record-clause-takes g c = λ bytes holds.
    let read = c.judge-members in
    let e = c.in-Ok-end_record.ensures in
    let rest = rw c.in-Ok.is at read.ensures.rest in
    let mid = read.result.members in
    record_there c.args.opened.start bytes c.args.opened.head (left_of c.args.members) (left_of mid)
    (taken c.args.members.source) (taken mid.source) (taken c.end_record.new.members.source) read.new.reader.held _
    holds read.ensures.reads c.in-Ok-end_record.place (λ r. c.in-Ok.verdict ≡ verdict_in r) e.moves
    (judged_read _ _ c.in-Ok.verdict _ _ rest) e.place e.closes
    (judged_verdict HEAD_LIMIT 0 c.args.opened.head c.in-Ok.verdict _ _ _ holds.reads rest)

pub returns-in-Err-end_record-clause-takes : goal.returns-in-Err-end_record-clause-takes
returns-in-Err-end_record-clause-takes g c = λ bytes holds.
    let read = c.judge-members in
    let e = c.in-Err-end_record.ensures in
    let mid = read.result.members in
    member_fails c.args.opened.start bytes c.args.opened.head (left_of c.args.members) (left_of mid)
    (taken c.args.members.source) (taken mid.source) (taken c.end_record.new.members.source) read.new.reader.held _
    holds read.ensures.reads c.in-Err-end_record.fault e.at
    (judged_read _ _ c.in-Ok.verdict _ _ (rw c.in-Ok.is at read.ensures.rest)) e.closes

pub returns-in-Err-clause-takes : goal.returns-in-Err-clause-takes
returns-in-Err-clause-takes g c = λ bytes holds.
    let read = c.judge-members in
    let e = c.end_fault-fault in
    let mid = read.result.members in
    record_fails c.args.opened.start bytes c.args.opened.head (left_of c.args.members) (left_of mid)
    (taken c.args.members.source) (taken mid.source) (taken e.new.members.source) read.new.reader.held _
    holds read.ensures.reads c.in-Err.fault.cause e.result e.ensures.at
    (judged_met _ _ c.in-Err.fault.cause _ _ (rw c.in-Err.is at read.ensures.rest))
    e.ensures.closes

pub returns-in-Err-clause-failures : goal.returns-in-Err-clause-failures
returns-in-Err-clause-failures g c =
    counts_closed c.in-Err.fault.cause c.end_fault-fault.result.cause _ _ _
    (rw c.in-Err.is at c.judge-members.ensures.failures) c.end_fault-fault.ensures.failures
