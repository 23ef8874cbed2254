use Rattle.door_examples.proofs.ReadArchives.{info_is_read, pages_are_accepted}
use Rattle.door_examples.proofs.witnesses.archives_are_read.Goals as goal

pub returns-clause-info : goal.returns-clause-info
returns-clause-info c = info_is_read

pub returns-clause-pages : goal.returns-clause-pages
returns-clause-pages c = pages_are_accepted
