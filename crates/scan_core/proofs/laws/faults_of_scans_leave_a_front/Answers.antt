use Rattle.scan_core.proofs.ScanLemmas.{scan_front}
use Rattle.scan_core.proofs.laws.faults_of_scans_leave_a_front.Goals as goal

pub returns : goal.returns
returns c = scan_front c.archive_has_one_list_of_captures.ensures.whole
