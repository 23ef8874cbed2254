use Rattle.index_core.proofs.FormListLemmas.{is_read_to_fault, is_read_whole}
use Rattle.index_core.proofs.laws.archive_is_one_list_of_records.Goals as goal

pub returns-clause-whole : goal.returns-clause-whole
returns-clause-whole c = is_read_whole

pub returns-clause-fault : goal.returns-clause-fault
returns-clause-fault c = is_read_to_fault
