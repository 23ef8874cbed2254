use Rattle.std.proofs.Common.{refl, rules}
use Rattle.tasks.specs.Checks.{ChecksOne}
use Rattle.outcomes.specs.Outcome.{ends_command}
use Rattle.tasks.specs.Writes.{CountsWrites}
use Rattle.tasks.proofs.EachLemmas.{goes_over-calls}
use Rattle.tasks.proofs.WriteCounts.{counts_over}
use Rattle.tasks.proofs.checks.check_all.Goals as goal

pub returns-clause-checks : goal.returns-clause-checks
returns-clause-checks g c =
    goes_over-calls _ _
    (ChecksOne (g.F.Opener.index_bytes c.args.files.now) (g.F.Opener.index_failed c.args.files.now)) g.O.Output.written
    (λ out name ended left met. search rules) _ _ _ _ _ c.with_each.ensures

pub returns-clause-writes : goal.returns-clause-writes
unfolding ends_command
returns-clause-writes g c =
    counts_over _ _ _ _ _ refl
    (goes_over-calls _ _ (λ old name ended new. CountsWrites ended old new) g.O.Output.failures
    (λ out name ended left met. search rules) _ _ _ _ _ c.with_each.ensures)
