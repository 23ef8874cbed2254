use Rattle.gzip_members.proofs.BeginLemmas.{begun, not-begun}
use Rattle.gzip_members.proofs.members.Members.begin.Goals as goal

pub returns-else-not-begins-clause-member : goal.returns-else-not-begins-clause-member
returns-else-not-begins-clause-member g c = λ bytes e near.
    rw c.if-not-begins.false (begun c.restart.new.self c.args.self.now.source.passed c.start.new.self.passed _ _ bytes c.restart.ensures.stage c.restart.ensures.place
    c.restart.ensures.bits c.restart.ensures.text (rw c.if-not-begins.false at c.in-Ok.ensures.starts) e near)

pub returns-in-Err-clause-member : goal.returns-in-Err-clause-member
returns-in-Err-clause-member g c = λ bytes e near.
    not-begun c.in-Err.fault c.args.self.now.source.passed c.start.new.self.passed _ _ bytes _ c.in-Err.ensures.starts e near
