use Rattle.door_examples.proofs.ReadTexts.{key_is_found, line_is_index, query_is_read}
use Rattle.door_examples.proofs.witnesses.texts_are_read.Goals as goal

pub returns-clause-key : goal.returns-clause-key
returns-clause-key c = key_is_found

pub returns-clause-line : goal.returns-clause-line
returns-clause-line c = line_is_index

pub returns-clause-query : goal.returns-clause-query
returns-clause-query c = query_is_read
