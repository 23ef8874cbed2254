use Rattle.query_core.proofs.DropLemmas.{kept_index}
use Rattle.query_core.proofs.laws.dropped_files_leave_the_rest.Goals as goal

pub returns-clause-index : goal.returns-clause-index
returns-clause-index c = kept_index
