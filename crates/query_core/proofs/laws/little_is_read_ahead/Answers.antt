use Rattle.query_core.proofs.ReachLawLemmas.{few_held, no_step, unwritten_answer, unwritten_pages, unwritten_replies}
use Rattle.query_core.proofs.laws.little_is_read_ahead.Goals as goal

pub returns-clause-answer : goal.returns-clause-answer
returns-clause-answer g c = unwritten_answer _

pub returns-clause-pages : goal.returns-clause-pages
returns-clause-pages g c = unwritten_pages _

pub returns-clause-serve : goal.returns-clause-serve
returns-clause-serve g c = unwritten_replies _

pub returns-clause-held : goal.returns-clause-held
returns-clause-held g c = few_held _

pub returns-clause-steps : goal.returns-clause-steps
returns-clause-steps g c = no_step _
