use Rattle.std.proofs.Common.{subst}
use Rattle.std.specs.Prelude.{OnOk}
use Rattle.outcomes.specs.declared.outcome.Outcome.TheVariants as outcomes
use Rattle.tasks.specs.Running.{WritesAndFlushes}
use Rattle.tasks.proofs.StatusLemmas.{flushed_is, prints}
use Rattle.tasks.proofs.program.print_text.Goals as goal

pub returns : goal.returns
returns g c =
    let output = g.O.Output.written in
    let flushed = g.O.Flush.flushed in
    let failures = g.O.Output.failures in
    prints output flushed failures c.args.text.now c.put_and_flush.result _ _ _ _ c.is_ok-is_printed.ensures.value
    (subst (λ text. OnOk c.put_and_flush.result
    (WritesAndFlushes output flushed failures text c.args.out.now c.put_and_flush.new.out)) c.as_bytes.ensures.value
    c.put_and_flush.ensures)
    (rw (c.end.ensures, c.flushed_outcome.ensures) (flushed_is outcomes.Done c.is_ok-is_printed.result))
