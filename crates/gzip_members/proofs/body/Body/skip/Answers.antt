use Rattle.std.proofs.Common.{◌≤◌, length, refl, arith}
use Rattle.gzip_members.specs.Windows.{pending}
use Rattle.gzip_members.proofs.GiveLemmas.{gives-front}
use Rattle.gzip_members.proofs.body.Body.skip.Goals as goal

pub returns-clause-left : goal.returns-clause-left
returns-clause-left c = λ bytes.
    let old = c.args.self.now in let n = c.skip.result in
    let within : n ≤ length (pending old.window) = omega (arith, c.skip.ensures.count) in
    gives-front old _ bytes n refl refl refl refl refl old.given within c.skip.ensures.text c.skip.ensures.given
