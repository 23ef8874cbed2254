use Rattle.archives.proofs.CaptureLemmas.{memory_refuses}
use Rattle.archives.proofs.plain_archive.PlainArchiveArchive.next_capture.Goals as goal
use Rattle.capture_core.specs.Types.{includes}
use Rattle.capture_core.specs.CaptureAnswer.{usual_limits}

pub returns-in-Ok-clause-takes : goal.returns-in-Ok-clause-takes
returns-in-Ok-clause-takes g c = rw c.in-Ok.is c.next_capture.ensures.takes

pub returns-in-Err-clause-takes : goal.returns-in-Err-clause-takes
returns-in-Err-clause-takes g c =
    rw c.in-Err.is (memory_refuses (includes c.args.types) usual_limits c.args.name.now c.in-Err.fault
    (c.args.self.now.memory c.in-Err.fault c.in-Err.is) _)
