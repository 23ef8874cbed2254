use Rattle.index_core.proofs.CallLemmas.{fetched_is_archive, part_is_front}
use Rattle.index_core.proofs.laws.fetched_record_is_an_archive.Goals as goal

pub returns-clause-whole : goal.returns-clause-whole
returns-clause-whole c = fetched_is_archive c.reading_and_spelling.ensures.read

pub returns-clause-front : goal.returns-clause-front
returns-clause-front c = part_is_front
