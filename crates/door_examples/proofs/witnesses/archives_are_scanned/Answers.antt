use Rattle.door_examples.proofs.ScannedArchives.{two_are_scannable, two_are_scanned}
use Rattle.door_examples.proofs.witnesses.archives_are_scanned.Goals as goal

pub returns-clause-written : goal.returns-clause-written
returns-clause-written c = two_are_scanned

pub returns-clause-premises : goal.returns-clause-premises
returns-clause-premises c = two_are_scannable c.accepted_archive_is_whole.ensures
