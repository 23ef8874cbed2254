use Rattle.archives.proofs.TakingLemmas.{no_memory_fails}
use Rattle.archives.proofs.packed_archive.PackedArchiveArchive.next_verdict.Goals as goal

pub returns-in-NoMemory-clause-next : goal.returns-in-NoMemory-clause-next
returns-in-NoMemory-clause-next g c =
    rw (← c.replace.ensures.value, c.in-NoMemory.is) (no_memory_fails _ _)
