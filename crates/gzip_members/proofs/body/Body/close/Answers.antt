use Rattle.std.proofs.Common.{refl}
use Rattle.gzip_members.proofs.TrailerLemmas.{closed-left, unclosed-left}
use Rattle.gzip_members.proofs.body.Body.close.Goals as goal

pub returns-in-Ok-clause-left : goal.returns-in-Ok-clause-left
returns-in-Ok-clause-left c =
    closed-left c.args.self.now _ c.args.bytes.now c.args.is_whole c.requires.stage refl refl c.requires.enough c.in-Ok.ensures.whole c.in-Ok.ensures.trailer

pub returns-in-Err-clause-left : goal.returns-in-Err-clause-left
returns-in-Err-clause-left c =
    unclosed-left c.args.self.now _ c.args.bytes.now c.args.is_whole c.in-Err.fault c.requires.stage refl c.requires.enough c.in-Err.ensures.trailer
