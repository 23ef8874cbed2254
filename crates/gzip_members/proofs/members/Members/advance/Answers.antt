use Rattle.std.proofs.Common.{length, sym, ◌∙◌}
use Rattle.gzip_members.proofs.LeftLemmas.{work-done}
use Rattle.gzip_members.proofs.members.Members.advance.Goals as goal

pub returns-else-waits-clause-nearer : goal.returns-else-waits-clause-nearer
returns-else-waits-clause-nearer g c =
    let old = c.args.self.now in let new = c.step.new.self in
    work-done old.body.stage new.body.stage old.body.window new.body.window old.source.passed new.source.passed
    (length old.source.ahead) (length new.source.ahead) c.requires.more c.requires.given (sym c.waits.ensures ∙ c.if-waits.false)
