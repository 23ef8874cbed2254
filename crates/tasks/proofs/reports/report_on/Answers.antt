use Rattle.std.proofs.Common.{refl, rules, length, string_bytes, subst, sym}
use Rattle.std.proofs.lemmas.List.{length-map}
use Rattle.command_line.specs.Words.{texts}
use Rattle.outcomes.specs.declared.outcome.Outcome.TheVariants.{Done}
use Rattle.tasks.specs.Each.{GoesOver}
use Rattle.tasks.specs.Reports.{ReportsOnOne}
use Rattle.outcomes.specs.Outcome.{ends_command}
use Rattle.tasks.specs.Writes.{CountsWrites}
use Rattle.tasks.proofs.EachLemmas.{goes_over-calls}
use Rattle.tasks.proofs.WriteCounts.{counts_over}
use Rattle.tasks.proofs.reports.report_on.Goals as goal

pub returns-clause-report : goal.returns-clause-report
returns-clause-report g c =
    let given = c.args.names.now in
    let names = texts given in
    let One = ReportsOnOne (g.F.Opener.tells_archive c.args.files.now) (g.F.Opener.archive_failed c.args.files.now)
    c.args.report in
    let written = g.O.Output.written in
    let over = goes_over-calls _ _ (One (length given)) written
    (λ out name ended left met. search rules) _ _ _ _ _ c.with_each.ensures in
    subst (λ n. GoesOver (One n) Done (written c.args.out.now) names c.with_each.result
    (written c.with_each.new.state))
    (sym (length-map given string_bytes)) over

pub returns-clause-writes : goal.returns-clause-writes
unfolding ends_command
returns-clause-writes g c =
    counts_over _ _ _ _ _ refl
    (goes_over-calls _ _ (λ old name ended new. CountsWrites ended old new) g.O.Output.failures
    (λ out name ended left met. search rules) _ _ _ _ _ c.with_each.ensures)
