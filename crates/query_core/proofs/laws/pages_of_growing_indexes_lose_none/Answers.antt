use Rattle.query_core.proofs.GrowingLemmas.{growing_loses_none}
use Rattle.query_core.proofs.laws.pages_of_growing_indexes_lose_none.Goals as goal

pub returns : goal.returns
returns c = growing_loses_none c.pages_are_selected.ensures.plain c.added_indexes_only_add.ensures
