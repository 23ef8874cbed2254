use Rattle.index_core.proofs.AcceptedLemmas.{whole_is_not_refused}
use Rattle.index_core.proofs.laws.accepted_archive_is_not_refused.Goals as goal

pub returns : goal.returns
returns c = whole_is_not_refused
