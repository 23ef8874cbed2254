use Rattle.std.proofs.Common.{Option, arith}
use Rattle.std.specs.Io.KnownBytes.{prepend_known}
use Rattle.warc_core.specs.declared.next.TheConstants.{HEAD_LIMIT}
use Rattle.cdxj_core.specs.Entries.{EntryValue}
use Rattle.capture_core.specs.CaptureAnswer.{usual_limits}
use Rattle.capture_core.specs.Types.{includes}
use Rattle.gzip_members.specs.Left.{left_of, text_of}
use Rattle.gzip_members.specs.Reading.{taken}
use Rattle.archives.specs.Captures.{IsCaptureFrom}
use Rattle.archives.specs.Form.{Placed}
use Rattle.archives.specs.MemberReading.{file_ahead}
use Rattle.archives.specs.Packed.{packed}
use Rattle.archives.proofs.MemberCaptureLemmas.{taken_refused}
use Rattle.archives.proofs.PackedLemmas.{packed_follows}
use Rattle.archives.proofs.TakingLemmas.{taken_comes}
use Rattle.archives.proofs.member_captures.next_capture.Goals as goal

pub returns-in-Ok-clause-takes : goal.returns-in-Ok-clause-takes
returns-in-Ok-clause-takes g c =
    let o = c.open_record-members in
    let mid = o.result.members in
    let t = c.take_capture-members in
    let stands = rw (c.in-Ok-Some.is, c.in-Ok-Some.field-0-is) at o.ensures.stands in
    let comes = taken_comes c.args.members.source.passed c.in-Ok-Some.opened (left_of mid) (taken mid.source)
    (prepend_known o.new.reader.held (text_of (left_of mid))) (file_ahead (taken t.result.members.source))
    (Placed × Option EntryValue) (λ x. x.0)
    (λ x r. IsCaptureFrom (includes c.args.types) usual_limits (packed HEAD_LIMIT) c.args.name.now r x.1)
    (file_ahead (taken c.args.members.source)) c.in-Ok.captured t.result.members.source.passed
    (rw (c.in-Ok-Some.is, c.in-Ok-Some.field-0-is) at o.ensures.opens) (rw c.in-Ok.is at t.ensures.takes)
    stands.follows stands.opens.begins.start_is (rw c.in-Ok.is at t.ensures.further)
    t.result.members.source.within (rw c.in-Ok.is at t.ensures.placed) in
    record {
      comes = comes.comes;
      stands = comes.stands;
      entry = rw c.in-Ok.is at t.ensures.entry;
      under = rw c.in-Ok.is at t.ensures.under;
    }

pub returns-in-Err-result-clause-takes : goal.returns-in-Err-result-clause-takes
returns-in-Err-result-clause-takes g c =
    let o = c.open_record-members in
    let mid = o.result.members in
    let t = c.take_capture-members in
    let stands = rw (c.in-Ok-Some.is, c.in-Ok-Some.field-0-is) at o.ensures.stands in
    let at = rw c.in-Err-result.is at t.ensures.at in
    let onward = stands.follows in (
      packed_follows HEAD_LIMIT _ _ (omega (arith, at, onward)),
      taken_refused (includes c.args.types) c.args.name.now c.args.members.source.passed c.in-Ok-Some.opened
          (left_of mid) (taken mid.source) (prepend_known o.new.reader.held (text_of (left_of mid)))
          (file_ahead (taken c.args.members.source)) (file_ahead (taken t.result.members.source))
          c.in-Err-result.fault stands.follows
          (rw (c.in-Ok-Some.is, c.in-Ok-Some.field-0-is) at o.ensures.opens)
          (rw c.in-Err-result.is at t.ensures.takes),
    )

pub returns-in-Err-clause-takes : goal.returns-in-Err-clause-takes
returns-in-Err-clause-takes g c =
    let o = c.open_record-members in (
      packed_follows HEAD_LIMIT _ _ (rw c.in-Err.is at o.ensures.at),
      rw c.in-Err.is at o.ensures.opens,
    )
