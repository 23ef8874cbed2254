use Rattle.index_core.proofs.FetchedLemmas.{fetched}
use Rattle.index_core.proofs.laws.captures_stand_at_their_offsets.Goals as goal

pub returns : goal.returns
returns c types limits limit name archive captures e accepted i =
    fetched types limits limit name archive e captures accepted i
