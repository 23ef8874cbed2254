use Rattle.query_core.proofs.ComposeLemmas.{added}
use Rattle.query_core.proofs.laws.added_indexes_only_add.Goals as goal

pub returns : goal.returns
returns c = added c.pages_are_selected.ensures.members
