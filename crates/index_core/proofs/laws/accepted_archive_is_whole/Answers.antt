use Rattle.index_core.proofs.AcceptedLemmas.{accepted_is_whole}
use Rattle.index_core.proofs.laws.accepted_archive_is_whole.Goals as goal

pub returns : goal.returns
returns c = accepted_is_whole
