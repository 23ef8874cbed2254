use Rattle.index_core.proofs.Words.{HEAD_LIMIT}
use Rattle.index_core.proofs.FetchLemmas.{unread_stops}
use Rattle.index_core.proofs.fetching.PlainArchiveFetch.get.Goals as goal

pub returns-in-Err-clause-fetches : goal.returns-in-Err-clause-fetches
returns-in-Err-clause-fetches g c =
    let none = c.args.self.now.memory c.in-Err.fault c.in-Err.is in
    rw (c.in-Err.is, c.from.ensures) (unread_stops HEAD_LIMIT c.args.offset c.in-Err.fault _ _ none)
