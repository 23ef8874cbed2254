use Rattle.query_core.proofs.FrontLemmas.{conversation_one}
use Rattle.query_core.proofs.laws.conversation_over_indexes_writes_one_text.Goals as goal

pub returns : goal.returns
returns c = conversation_one
