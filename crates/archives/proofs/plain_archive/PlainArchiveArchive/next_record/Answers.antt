use Rattle.archives.proofs.PlainLemmas.{memory_fails}
use Rattle.archives.proofs.plain_archive.PlainArchiveArchive.next_record.Goals as goal

pub returns-in-Err-clause-next : goal.returns-in-Err-clause-next
returns-in-Err-clause-next g c =
    rw c.in-Err.is (memory_fails c.in-Err.fault (c.args.self.now.memory c.in-Err.fault c.in-Err.is) _ _)
