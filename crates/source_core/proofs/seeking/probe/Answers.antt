use Rattle.source_core.proofs.Words.{arith}
use Rattle.source_core.proofs.seeking.probe.Goals as goal

pub returns-in_err-offset : goal.returns-in_err-offset
returns-in_err-offset g c = grind arith

pub returns-in_err-stops-in-Some : goal.returns-in_err-stops-in-Some
returns-in_err-stops-in-Some g c = grind arith

pub returns-in-None : goal.returns-in-None
returns-in-None g c = grind arith

pub returns-in_ok-stops-in-Some-clause-line : goal.returns-in_ok-stops-in-Some-clause-line
returns-in_ok-stops-in-Some-clause-line g c = λ t e. rw c.in-Some.is at (c.in_ok-offset.ensures.line t e)

pub returns-in_ok-stops-in-Some-clause-stops : goal.returns-in_ok-stops-in-Some-clause-stops
returns-in_ok-stops-in-Some-clause-stops g c = grind (arith, returns-in_ok-stops-in-Some-clause-line)
