use Rattle.archives.proofs.TakingLemmas.{no_memory_refuses}
use Rattle.capture_core.specs.Types.{includes}
use Rattle.archives.proofs.packed_archive.PackedArchiveArchive.next_capture.Goals as goal

pub returns-in-Ready-clause-takes : goal.returns-in-Ready-clause-takes
returns-in-Ready-clause-takes g c =
    rw (← c.replace.ensures.value, c.in-Ready.is) c.next_capture-members.ensures.takes

pub returns-in-NoMemory-clause-takes : goal.returns-in-NoMemory-clause-takes
returns-in-NoMemory-clause-takes g c =
    rw (← c.replace.ensures.value, c.in-NoMemory.is) (no_memory_refuses (includes c.args.types) c.args.name.now _)
