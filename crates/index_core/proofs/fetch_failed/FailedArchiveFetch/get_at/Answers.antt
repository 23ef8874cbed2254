use Rattle.std.proofs.Common.{◌-◌, ◌^◌, ◌<◌, ◌≤◌, arith}
use Rattle.archives.specs.Failed.{bytes_known, packing_known}
use Rattle.index_core.proofs.FailedLemmas.{none-past, unread-at}
use Rattle.index_core.proofs.fetch_failed.FailedArchiveFetch.get_at.Goals as goal

pub returns-then-offset-gt-GREATEST_OFFSET-clause-fetches :
    goal.returns-then-offset-gt-GREATEST_OFFSET-clause-fetches
returns-then-offset-gt-GREATEST_OFFSET-clause-fetches g c =
    let past : 2 ^ 63 - 1 < c.args.offset = omega arith in
    none-past (g.O.Output.written c.args.out.now) (g.I.Input.remaining c.args.self.now.input) c.args.offset
    c.args.length past

pub returns-clause-fetches : goal.returns-clause-fetches
returns-clause-fetches g c =
    let left = g.I.Input.remaining c.args.self.now.input in
    let fits : c.args.offset ≤ 2 ^ 63 - 1 = omega arith in
    rw c.failed_at.ensures
    (unread-at (g.O.Output.written c.args.out.now) (packing_known left) c.args.offset c.args.length (bytes_known left)
    fits)
