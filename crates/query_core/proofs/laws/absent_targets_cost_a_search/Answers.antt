use Rattle.query_core.proofs.ReachLawLemmas.{absent_answer, absent_pages}
use Rattle.query_core.proofs.laws.absent_targets_cost_a_search.Goals as goal

pub returns-clause-answer : goal.returns-clause-answer
returns-clause-answer g c = absent_answer _

pub returns-clause-pages : goal.returns-clause-pages
returns-clause-pages g c = absent_pages _
