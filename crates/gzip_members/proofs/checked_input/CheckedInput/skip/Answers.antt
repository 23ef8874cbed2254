use Rattle.std.proofs.Common.{◌≤◌, ◌∙◌, length, take, arith}
use Rattle.std.proofs.lemmas.List.{length-take-le}
use Rattle.devices.proofs.BufferLemmas.{skips-held, skips-read}
use Rattle.gzip_members.proofs.checked_input.CheckedInput.skip.Goals as goal

pub returns-then-not-is_empty-clause-bytes : goal.returns-then-not-is_empty-clause-bytes
returns-then-not-is_empty-clause-bytes g c =
    let n = c.skip_held.result in
    let fits : n ≤ length c.args.self.now.ahead = omega (arith, c.skip_held.ensures.count) in (
      take n c.args.self.now.ahead,
      grind (arith, skips-held),
      length-take-le n c.args.self.now.ahead fits,
    )

pub returns-in_ok-read_on-in-0-clause-bytes : goal.returns-in_ok-read_on-in-0-clause-bytes
returns-in_ok-read_on-in-0-clause-bytes g c =
    let n = c.skip_held-in-0.result in
    let now = c.read_on.new.self in
    let fits : n ≤ length now = omega (arith, c.skip_held-in-0.ensures.count) in (
      take n now,
      rw (c.skip_held-in-0.ensures.held, c.skip_held-in-0.ensures.input) (skips-read _ _ _ c.in_ok-skipped.ensures.bytes.0
          c.args.self.now.ahead now n c.in_ok-skipped.ensures.bytes.1 (c.in_ok-skipped.ensures.bytes.2 ∙ c.in-0.is)
          c.in_ok-read_on-in-0.ensures.bytes),
      length-take-le n now fits,
    )
