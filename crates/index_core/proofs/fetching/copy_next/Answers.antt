use Rattle.index_core.proofs.Words.{HEAD_LIMIT}
use Rattle.index_core.proofs.FetchLemmas.{next_copied}
use Rattle.index_core.proofs.fetching.copy_next.Goals as goal

pub returns-in-Some-clause-copies : goal.returns-in-Some-clause-copies
returns-in-Some-clause-copies g c =
    let n = rw c.in-Some.is at (c.in_ok-head.ensures.between c.requires) in
    next_copied HEAD_LIMIT _ c.in-Some.head _ _ _ _ _ _ n.bytes n.begins.start_is c.copy_record.ensures.copies
