use Rattle.archives.proofs.FailedLemmas.{refuses_here}
use Rattle.archives.specs.Failed.{bytes_known, packing_known}
use Rattle.archives.proofs.failed_archive.FailedArchiveArchive.next_capture.Goals as goal

pub returns-clause-takes : goal.returns-clause-takes
returns-clause-takes g c =
    let remaining = g.I.Input.remaining c.args.self.now.input in
    refuses_here (packing_known remaining) 0 (bytes_known remaining)
