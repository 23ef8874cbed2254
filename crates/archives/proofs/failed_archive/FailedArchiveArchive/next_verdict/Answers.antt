use Rattle.archives.proofs.FailedLemmas.{fails_here}
use Rattle.archives.proofs.failed_archive.FailedArchiveArchive.next_verdict.Goals as goal

pub returns-clause-next : goal.returns-clause-next
returns-clause-next g c = fails_here _ 0 _ _
