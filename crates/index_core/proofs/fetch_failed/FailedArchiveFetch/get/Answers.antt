use Rattle.archives.specs.Failed.{bytes_known, packing_known}
use Rattle.index_core.proofs.FailedLemmas.{unread-from}
use Rattle.index_core.proofs.fetch_failed.FailedArchiveFetch.get.Goals as goal

pub returns-clause-fetches : goal.returns-clause-fetches
returns-clause-fetches g c =
    let left = g.I.Input.remaining c.args.self.now.input in
    rw c.failed_at.ensures
    (unread-from (g.O.Output.written c.args.out.now) (packing_known left) c.args.offset (bytes_known left))
