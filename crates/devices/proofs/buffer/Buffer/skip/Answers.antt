use Rattle.std.proofs.Common.{◌≤◌, length, take, arith}
use Rattle.std.proofs.lemmas.List.{length-take-le}
use Rattle.std.proofs.lemmas.Grind.{common_steps}
use Rattle.std.proofs.lemmas.Result.{err_from_is_err_and}
use Rattle.devices.proofs.BufferLemmas.{skips-held, skips-read}
use Rattle.devices.proofs.buffer.Buffer.skip.Goals as goal

pub returns-then-not-is_empty-clause-bytes : goal.returns-then-not-is_empty-clause-bytes
returns-then-not-is_empty-clause-bytes g c =
    let n = c.skip_held.result in
    let fits : n ≤ length c.args.self.now = omega (arith, c.skip_held.ensures.count) in (
      take n c.args.self.now,
      grind (arith, skips-held),
      length-take-le n
          c.args.self.now fits,
    )

pub returns-in_ok-fill-in-0-clause-bytes : goal.returns-in_ok-fill-in-0-clause-bytes
returns-in_ok-fill-in-0-clause-bytes g c =
    let n = c.skip_held-in-0.result in
    let now = c.fill.new.self in
    let fits : n ≤ length now = omega (arith, c.skip_held-in-0.ensures.count) in (
      take n now,
      grind (arith, skips-read),
      length-take-le
          n now fits,
    )

pub returns-in_err-fill-in-0-clause-bytes : goal.returns-in_err-fill-in-0-clause-bytes
returns-in_err-fill-in-0-clause-bytes g c = grind (arith, common_steps, err_from_is_err_and)
