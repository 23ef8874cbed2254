use Rattle.std.proofs.Common.{◌+◌, ◌∷◌, ap, sym, ◌∙◌, refl, drop}
use Rattle.std.proofs.lemmas.List.{drop_more}
use Rattle.command_line.specs.Words.{texts}
use Rattle.tasks.specs.Each.{ReturnsWithState}
use Rattle.tasks.proofs.each.with_each.Goals as goal

pub returns-then-ends_command : goal.returns-then-ends_command
returns-then-ends_command g c =
    let at = c.loop-name.name-index in
    let names = c.args.names.now in
    let left = drop_more names at c.name-item.result c.loop-name-test.true
    ∙ ap (λ name. name ∷ drop (at + 1) names) (sym c.name-item.is) in
    let step : ReturnsWithState g.F.Fn c.args.act c.loop-name.state c.deref.result.now c.act-ended.result
    c.act-ended.new.arg2
    = record { shown = _; shows = refl; named = _; names = refl; left = _; met = c.act-ended.ensures; leaves = refl } in
    c.loop-name.invariant _ _
    (rw (ap texts left, sym c.deref.ensures) (_, _, step, rw (sym c.if-ends_command.ensures) (refl, refl)))

pub loop-name-preserved : goal.loop-name-preserved
loop-name-preserved g c =
    let at = c.loop-name.name-index in
    let names = c.args.names.now in
    let left = drop_more names at c.name-item.result c.loop-name-test.true
    ∙ ap (λ name. name ∷ drop (at + 1) names) (sym c.name-item.is) in
    let step : ReturnsWithState g.F.Fn c.args.act c.loop-name.state c.deref.result.now c.act-ended.result
    c.act-ended.new.arg2
    = record { shown = _; shows = refl; named = _; names = refl; left = _; met = c.act-ended.ensures; leaves = refl } in
    λ result last over. c.loop-name.invariant result last
    (rw (ap texts left, sym c.deref.ensures)
    (_, _, step, rw (sym c.if-ends_command.ensures, sym c.worse-outcome.ensures) over))
