use Rattle.packed_tests.proofs.ReadArchives.{archive_is_read}
use Rattle.packed_tests.proofs.ReadPages.{page_is_accepted}
use Rattle.packed_tests.proofs.examples.literal_archives_are_read.Goals as goal

pub returns-clause-read : goal.returns-clause-read
returns-clause-read c = archive_is_read

pub returns-clause-accepted : goal.returns-clause-accepted
returns-clause-accepted c = page_is_accepted
