use Rattle.gzip_members.specs.Left.{left_of}
use Rattle.archives.proofs.MemberLemmas.{ends_err, ends_ok}
use Rattle.archives.proofs.member_bounds.end.Goals as goal

pub returns-in-Ok-clause-ends : goal.returns-in-Ok-clause-ends
returns-in-Ok-clause-ends g c =
    ends_ok (left_of c.args.members.now) c.in-Ok.had _ c.in-Ok.ensures.whole c.in-Ok.ensures.refused

pub returns-in-Err-clause-ends : goal.returns-in-Err-clause-ends
returns-in-Err-clause-ends g c =
    rw c.cause_of.ensures (ends_err (left_of c.args.members.now) c.in-Err.fault _ c.in-Err.ensures.whole
    c.in-Err.ensures.refused)
