use Rattle.std.proofs.Common.{◌≤◌, length, refl, arith}
use Rattle.gzip_members.specs.Windows.{pending}
use Rattle.gzip_members.proofs.GiveLemmas.{gives-front}
use Rattle.gzip_members.proofs.body.Body.give.Goals as goal

pub returns-clause-left : goal.returns-clause-left
returns-clause-left c = λ bytes.
    let old = c.args.self.now in let n = c.give.result in
    let within : n ≤ length (pending old.window) = omega (arith, c.give.ensures.count) in
    rw c.give.ensures.bytes
    (gives-front old _ bytes n refl refl refl refl refl old.given within c.give.ensures.text c.give.ensures.given)
