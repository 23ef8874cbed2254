use Rattle.gzip_members.specs.Left.{left_of}
use Rattle.gzip_members.specs.Reading.{taken}
use Rattle.archives.proofs.WalkingLemmas.{begun_opens}
use Rattle.archives.proofs.member_opening.open_member.Goals as goal

pub returns-then-begins-clause-opens : goal.returns-then-begins-clause-opens
returns-then-begins-clause-opens g c =
    let begun = c.begin.new.members in
    let opened = c.open_begun.result in
    begun_opens (taken c.args.members.source) (taken begun.source) (taken opened.members.source) (left_of begun)
    (left_of opened.members) opened.result _ (rw c.if-begins.true at c.in-Ok.ensures.starts) c.open_begun.ensures.opens
