use Rattle.std.proofs.Common.{arith, take, length-take}
use Rattle.gzip_members.specs.Left.{left_of}
use Rattle.gzip_members.specs.Windows.{pending}
use Rattle.gzip_members.proofs.RestLemmas.{given-ahead, given-later}
use Rattle.gzip_members.proofs.members.Members.skip.Goals as goal

pub returns-clause-text : goal.returns-clause-text
returns-clause-text g c =
    let old = c.fill.new.self in let given = take c.skip.result (pending old.body.window) in (
      given,
      omega (arith, length-take c.skip.result (pending old.body.window), c.skip.ensures.count),
      given-later (left_of c.args.self.now) (left_of old) _ given c.fill.ensures.left
          (given-ahead old.body c.skip.new.self old.source.passed _ given c.skip.ensures.left),
    )
