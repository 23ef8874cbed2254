use Rattle.std.proofs.Common.{Some, refl, drop, length-drop, arith}
use Rattle.std.proofs.lemmas.List.{take_all}
use Rattle.capture_core.proofs.payload.part.Goals as goal

pub returns-in-Some-clause-parts : goal.returns-in-Some-clause-parts
returns-in-Some-clause-parts c =
    let f = c.in-Some.ensures.found in (
      Some (f.0, drop c.in-Some.head.len c.args.front.now),
      f.1,
      rw (f.3, f.4) refl,
      grind (arith, take_all, length-drop),
    )
