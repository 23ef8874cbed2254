use Rattle.std.proofs.Common.{◌≤◌, length, take, arith, length-drop}
use Rattle.std.proofs.lemmas.List.{length-take-le, take-append-drop, take_all}
use Rattle.devices.proofs.memory.SliceInput.skip.Goals as goal

pub returns-clause-bytes : goal.returns-clause-bytes
returns-clause-bytes c =
    let n = c.min-skipped.result in
    let rest = c.self.inside.rest.now in
    let fits : n ≤ length rest = omega (arith, c.min-skipped.ensures) in (
      take n rest,
      grind (arith, take-append-drop, take_all, length-drop),
      length-take-le n rest
          fits,
    )
