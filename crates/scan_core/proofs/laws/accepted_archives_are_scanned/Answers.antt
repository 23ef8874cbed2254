use Rattle.scan_core.proofs.WantLemmas.{only_memory}
use Rattle.scan_core.proofs.laws.accepted_archives_are_scanned.Goals as goal

pub returns : goal.returns
returns c = only_memory c.accepted_archive_is_not_refused.ensures
