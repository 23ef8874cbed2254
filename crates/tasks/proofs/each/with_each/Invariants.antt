use Rattle.std.proofs.Common.{drop}
use Rattle.command_line.specs.Words.{texts}
use Rattle.tasks.specs.Each.{GoesOver, ReturnsWithState}
use Rattle.outcomes.specs.declared.outcome.Outcome.{Outcome}
use Rattle.outcomes.specs.declared.outcome.Outcome.TheVariants.{Done}
use Rattle.tasks.proofs.each.with_each.Given as goal

-- as the command goes over the files that are left, so it goes over all
abbrev pub invariant-loop-name : goal.invariant-loop-name
invariant-loop-name g l =
    (result : Outcome) (last : _)
    → GoesOver (ReturnsWithState g.F.Fn l.act) l.outcome l.state (texts (drop l.name-index l.names)) result last
    → GoesOver (ReturnsWithState g.F.Fn l.act) Done l.initial.state (texts l.names) result last
