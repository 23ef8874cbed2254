use Rattle.std.proofs.Common.{ap, option_map, ◌∙◌}
use Rattle.cdxj_core.specs.declared.limit.TheConstants.{LINE_LIMIT}
use Rattle.capture_core.specs.Capture.{entry_from}
use Rattle.capture_core.specs.CaptureAnswer.{usual_limits}
use Rattle.capture_core.specs.Indexed.{url_of}
use Rattle.capture_core.specs.Types.{includes}
use Rattle.warc_core.specs.declared.next.TheConstants.{HEAD_LIMIT}
use Rattle.warc_core.specs.Record.{after_record}
use Rattle.gzip_members.specs.Left.{left_of}
use Rattle.gzip_members.specs.Reading.{taken}
use Rattle.archives.specs.Captures.{IsCaptureFrom}
use Rattle.archives.specs.MemberReading.{file_ahead}
use Rattle.archives.specs.Packed.{packed}
use Rattle.archives.proofs.MemberCaptureLemmas.{captured_there, line_at, line_refused, line_url, reading_err}
use Rattle.archives.proofs.RecordLemmas.{counts_closed, member_fails, record_fails, record_there}
use Rattle.archives.proofs.member_captures.take_capture.Goals as goal

pub returns-in-Ok-line_of-clause-takes : goal.returns-in-Ok-line_of-clause-takes
returns-in-Ok-line_of-clause-takes g c = λ bytes holds.
    let read = c.capture-members in
    let e = c.in-Ok-end_record.ensures in
    let mid = read.result.members in
    let place = c.in-Ok-end_record.place in
    record_there c.args.opened.start bytes c.args.opened.head (left_of c.args.members) (left_of mid)
    (taken c.args.members.source) (taken mid.source) (taken c.end_record.new.members.source) read.new.reader.held _
    holds read.ensures.reads place
    (λ r. IsCaptureFrom (includes c.args.types) usual_limits (packed HEAD_LIMIT) c.args.name.now r
    c.in-Ok-line_of.captured) e.moves (rw c.in-Ok.is at read.ensures.rest) e.place e.closes
    (rw c.in-Ok-line_of.ensures.answers (captured_there (includes c.args.types) c.args.name.now c.args.opened.head
    place _ _ _ holds.reads (rw c.in-Ok.is at read.ensures.parts)))

pub returns-in-Err-line_of-clause-takes : goal.returns-in-Err-line_of-clause-takes
returns-in-Err-line_of-clause-takes g c = λ bytes holds.
    let read = c.capture-members in
    let e = c.in-Ok-end_record.ensures in
    let mid = read.result.members in
    let place = c.in-Ok-end_record.place in
    line_refused (includes c.args.types) c.args.name.now c.args.opened.start bytes c.args.opened.head place _
    c.in-Err-line_of.fault (file_ahead (taken c.end_record.new.members.source)) (ap (λ p. p.offset) e.place)
    (record_there c.args.opened.start bytes c.args.opened.head (left_of c.args.members) (left_of mid)
    (taken c.args.members.source) (taken mid.source) (taken c.end_record.new.members.source) read.new.reader.held _
    holds read.ensures.reads place
    (λ r. IsCaptureFrom (includes c.args.types) usual_limits (packed HEAD_LIMIT) c.args.name.now r
    (option_map (entry_from place c.args.name.now) c.in-Ok.parts)) e.moves (rw c.in-Ok.is at read.ensures.rest)
    e.place e.closes
    (captured_there (includes c.args.types) c.args.name.now c.args.opened.head place _ _ _ holds.reads
    (rw c.in-Ok.is at read.ensures.parts))) c.in-Err-line_of.ensures.answers

pub returns-in-Err-end_record-clause-takes : goal.returns-in-Err-end_record-clause-takes
returns-in-Err-end_record-clause-takes g c = λ bytes holds.
    let read = c.capture-members in
    let e = c.in-Err-end_record.ensures in
    let mid = read.result.members in
    member_fails c.args.opened.start bytes c.args.opened.head (left_of c.args.members) (left_of mid)
    (taken c.args.members.source) (taken mid.source) (taken c.end_record.new.members.source) read.new.reader.held _
    holds read.ensures.reads c.in-Err-end_record.fault e.at (rw c.in-Ok.is at read.ensures.rest) e.closes

pub returns-in-Err-clause-takes : goal.returns-in-Err-clause-takes
returns-in-Err-clause-takes g c = λ bytes holds.
    let read = c.capture-members in
    let e = c.end_fault-fault in
    let mid = read.result.members in
    record_fails c.args.opened.start bytes c.args.opened.head (left_of c.args.members) (left_of mid)
    (taken c.args.members.source) (taken mid.source) (taken e.new.members.source) read.new.reader.held _
    holds read.ensures.reads c.in-Err.fault.cause e.result e.ensures.at
    (reading_err (after_record c.args.opened.head.parts.block_length) c.in-Err.fault.cause _ _
    (rw c.in-Err.is at read.ensures.rest)) e.ensures.closes

pub returns-in-Err-clause-failures : goal.returns-in-Err-clause-failures
returns-in-Err-clause-failures g c =
    counts_closed c.in-Err.fault.cause c.end_fault-fault.result.cause _ _ _
    (rw c.in-Err.is at c.capture-members.ensures.failures) c.end_fault-fault.ensures.failures

pub returns-in-Ok-line_of-clause-under : goal.returns-in-Ok-line_of-clause-under
returns-in-Ok-line_of-clause-under g c =
    rw c.in-Ok-line_of.ensures.answers (line_url c.in-Ok-end_record.place c.args.name.now _
    (url_of (includes c.args.types) c.args.opened.head) (rw c.in-Ok.is at c.capture-members.ensures.under))

pub returns-in-Err-line_of-clause-at : goal.returns-in-Err-line_of-clause-at
returns-in-Err-line_of-clause-at g c =
    line_at LINE_LIMIT c.in-Ok-end_record.place c.args.name.now _ c.in-Err-line_of.fault c.in-Err-line_of.ensures.answers
    ∙ ap (λ p. p.offset) c.in-Ok-end_record.ensures.place
