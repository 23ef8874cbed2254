use Rattle.query_core.proofs.CheckLemmas.{check_fault_of_line, checked_is_text}
use Rattle.query_core.proofs.laws.checked_texts_are_indexes.Goals as goal

pub returns-clause-text : goal.returns-clause-text
returns-clause-text c = checked_is_text

pub returns-clause-fault : goal.returns-clause-fault
returns-clause-fault c = check_fault_of_line
