use Rattle.index_core.proofs.AcceptedLemmas.{one_indexed, one_indexed_to}
use Rattle.index_core.proofs.laws.archive_has_one_list_of_captures.Goals as goal

pub returns : goal.returns
returns c = record { whole = one_indexed; part = one_indexed_to }
