use Rattle.query_core.proofs.PartLemmas.{answered_stand, given_read, pages_stand}
use Rattle.query_core.proofs.laws.captures_stand_in_sources.Goals as goal

pub returns-clause-answer : goal.returns-clause-answer
returns-clause-answer c = answered_stand

pub returns-clause-pages : goal.returns-clause-pages
returns-clause-pages c = pages_stand

pub returns-clause-few : goal.returns-clause-few
returns-clause-few c = given_read
