use Rattle.scan_core.proofs.ScanLemmas.{scan_one}
use Rattle.scan_core.proofs.laws.scan_writes_one_text.Goals as goal

pub returns : goal.returns
returns c = scan_one c.archive_has_one_list_of_captures.ensures.whole
