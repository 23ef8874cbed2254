use Rattle.query_core.proofs.FrontLemmas.{answer_front, fault_front, merge_front, pages_front, replies_front}
use Rattle.query_core.proofs.laws.faults_leave_a_front.Goals as goal

pub returns-clause-answer : goal.returns-clause-answer
returns-clause-answer c = answer_front

pub returns-clause-pages : goal.returns-clause-pages
returns-clause-pages c = pages_front

pub returns-clause-merge : goal.returns-clause-merge
returns-clause-merge c = merge_front

pub returns-clause-serve : goal.returns-clause-serve
returns-clause-serve c = replies_front

pub returns-clause-reply : goal.returns-clause-reply
returns-clause-reply c = fault_front
