use Rattle.std.specs.Io.KnownBytes.{prepend_known}
use Rattle.gzip_members.specs.Left.{left_of, text_of}
use Rattle.gzip_members.specs.Reading.{taken}
use Rattle.archives.proofs.WalkingLemmas.{later_end, later_fault}
use Rattle.archives.proofs.member_opening.open_record.Goals as goal

pub returns-in-Ok-End-clause-opens : goal.returns-in-Ok-End-clause-opens
returns-in-Ok-End-clause-opens g c =
    let read = c.open_member-read in
    later_end (taken c.args.members.source) (taken c.members.members.source) (taken read.result.members.source)
    (left_of read.result.members) (prepend_known read.new.reader.held (text_of (left_of read.result.members)))
    c.members.invariant.later
    (rw (c.in-Ok-End.is, c.in-Ok-End.field-0-is) at read.ensures.opens)

pub returns-in-Err-clause-opens : goal.returns-in-Err-clause-opens
returns-in-Err-clause-opens g c =
    let read = c.open_member-read in
    later_fault (taken c.args.members.source) (taken c.members.members.source) (taken read.result.members.source)
    (left_of read.result.members) (prepend_known read.new.reader.held (text_of (left_of read.result.members)))
    c.members.invariant.later c.in-Err.fault c.members.invariant.onward
    (rw c.in-Err.is at read.ensures.opens)
