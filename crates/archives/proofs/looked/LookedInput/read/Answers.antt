use Rattle.std.proofs.Common.{arith, length, ◌<◌}
use Rattle.std.proofs.lemmas.Grind.{common_steps}
use Rattle.archives.proofs.LookedLemmas.{gives-first}
use Rattle.archives.proofs.looked.LookedInput.read.Goals as goal

pub returns-in-Some-clause-bytes : goal.returns-in-Some-clause-bytes
returns-in-Some-clause-bytes g c =
    let some : 0 < length c.args.piece.now = grind (arith, common_steps) in
    let bytes = c.in-Some.ensures.bytes in (
      gives-first (g.I.Input.remaining c.args.self.now.input) c.args.self.now.first c.take.new.self c.in-Some.byte
          c.args.piece.now bytes some,
      λ e. absurd (omega arith),
    )
