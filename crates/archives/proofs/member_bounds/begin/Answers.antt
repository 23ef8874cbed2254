use Rattle.gzip_members.specs.Left.{left_of}
use Rattle.gzip_members.specs.Reading.{taken}
use Rattle.archives.proofs.MemberLemmas.{begins_not, begins_ok}
use Rattle.archives.proofs.member_bounds.begin.Goals as goal

pub returns-in-Ok-clause-starts : goal.returns-in-Ok-clause-starts
returns-in-Ok-clause-starts g c =
    let new = c.begin.new.self in
    begins_ok (taken c.args.members.now.source) (taken new.source) c.in-Ok.begins (left_of new) c.in-Ok.ensures.member
    c.in-Ok.ensures.moves

pub returns-in-Err-clause-starts : goal.returns-in-Err-clause-starts
returns-in-Err-clause-starts g c =
    let new = c.begin.new.self in
    rw c.cause_of.ensures (begins_not (taken c.args.members.now.source) (taken new.source) c.in-Err.fault (left_of new)
    c.in-Err.ensures.member)
