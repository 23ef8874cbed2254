use Rattle.std.proofs.Common.{◌≡◌}
use Rattle.std.specs.Io.KnownBytes.{prepend_known}
use Rattle.gzip_members.specs.Left.{left_of, text_of}
use Rattle.gzip_members.specs.Reading.{taken}
use Rattle.archives.specs.MemberReading.{file_ahead}
use Rattle.archives.specs.Walking.{Judged, verdict_in}
use Rattle.archives.proofs.TakingLemmas.{open_fails, taken_comes, taken_fails}
use Rattle.archives.proofs.member_records.next_verdict.Goals as goal

pub returns-in-Ok-clause-next : goal.returns-in-Ok-clause-next
returns-in-Ok-clause-next g c =
    let o = c.open_record-members in
    let mid = o.result.members in
    let t = c.take_verdict-members in
    let stands = rw (c.in-Ok-Some.is, c.in-Ok-Some.field-0-is) at o.ensures.stands in
    taken_comes c.args.members.source.passed c.in-Ok-Some.opened (left_of mid) (taken mid.source)
    (prepend_known o.new.reader.held (text_of (left_of mid))) (file_ahead (taken t.result.members.source)) Judged
    (λ j. j.0) (λ j r. j.1 ≡ verdict_in r) (file_ahead (taken c.args.members.source)) c.in-Ok.judged
    t.result.members.source.passed
    (rw (c.in-Ok-Some.is, c.in-Ok-Some.field-0-is) at o.ensures.opens) (rw c.in-Ok.is at t.ensures.takes)
    stands.follows stands.opens.begins.start_is (rw c.in-Ok.is at t.ensures.further)
    t.result.members.source.within (rw c.in-Ok.is at t.ensures.placed)

pub returns-in-Err-result-clause-next : goal.returns-in-Err-result-clause-next
returns-in-Err-result-clause-next g c =
    let o = c.open_record-members in
    let mid = o.result.members in
    let t = c.take_verdict-members in
    let stands = rw (c.in-Ok-Some.is, c.in-Ok-Some.field-0-is) at o.ensures.stands in
    taken_fails c.args.members.source.passed c.in-Ok-Some.opened (left_of mid) (taken mid.source)
    (prepend_known o.new.reader.held (text_of (left_of mid))) (file_ahead (taken t.result.members.source)) Judged
    (λ j. j.0) (λ j r. j.1 ≡ verdict_in r) (file_ahead (taken c.args.members.source)) c.in-Err-result.fault
    (rw (c.in-Ok-Some.is, c.in-Ok-Some.field-0-is) at o.ensures.opens) (rw c.in-Err-result.is at t.ensures.takes)
    stands.follows (rw c.in-Err-result.is at t.ensures.at)

pub returns-in-Err-clause-next : goal.returns-in-Err-clause-next
returns-in-Err-clause-next g c =
    let o = c.open_record-members in
    open_fails c.args.members.source.passed c.in-Err.fault (left_of o.result.members) (taken o.result.members.source)
    (prepend_known o.new.reader.held (text_of (left_of o.result.members))) (file_ahead (taken c.args.members.source))
    (file_ahead (taken o.result.members.source)) (rw c.in-Err.is at o.ensures.opens)
    (rw c.in-Err.is at o.ensures.at)
