use Rattle.query_core.proofs.TurnLemmas.{asked_are_chain}
use Rattle.query_core.proofs.laws.queries_in_turn_are_the_chain.Goals as goal

pub returns : goal.returns
returns c = asked_are_chain
