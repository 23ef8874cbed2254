use Rattle.scan_core.proofs.FaultLemmas.{first_fault_is_one}
use Rattle.scan_core.proofs.laws.first_archive_at_fault_is_one.Goals as goal

pub returns : goal.returns
returns c = first_fault_is_one c.accepted_archive_is_whole.ensures c.accepted_archive_is_not_refused.ensures
