use Rattle.cdxj_places.proofs.LastSpace.{cut_at_last, cut_nowhere}
use Rattle.cdxj_places.proofs.cuts.cut_last.Goals as goal

pub returns-in-Some-clause-before : goal.returns-in-Some-clause-before
returns-in-Some-clause-before c = (cut_at_last _ _ _ c.in-Some.ensures.cases).0

pub returns-in-Some-clause-after : goal.returns-in-Some-clause-after
returns-in-Some-clause-after c = (cut_at_last _ _ _ c.in-Some.ensures.cases).1

pub returns-in-None-clause-after : goal.returns-in-None-clause-after
returns-in-None-clause-after c = (cut_nowhere _ c.in-None.ensures.cases).1

pub returns-in-None-clause-before : goal.returns-in-None-clause-before
returns-in-None-clause-before c = (cut_nowhere _ c.in-None.ensures.cases).0
