use Rattle.index_core.proofs.Words.{◌∙◌, Option, slice_get, subst, sym, Appends}
use Rattle.index_core.proofs.Words.{err_from_is_err_and, Appends-join, AppendsPrefix, EntryValue}
use Rattle.devices.proofs.DeviceLemmas.{AppendsPrefix-behind}
use Rattle.cdxj_places.specs.declared.order.Row.{Row}
use Rattle.index_core.proofs.IndexLemmas.{lines_at, lines_more}
use Rattle.index_core.proofs.index_lines.put_lines.Goals as goal

pub returns-in_err-put_row-clause-lines : goal.returns-in_err-put_row-clause-lines
returns-in_err-put_row-clause-lines g c =
    let p = err_from_is_err_and c.from_residual.result c.from_residual.ensures.1 in
    let found : Row → Option EntryValue = λ row. slice_get c.args.captures.now row.number in
    rw p.1
    (subst (AppendsPrefix (g.O.Output.written c.args.out.now) (g.O.Output.written c.put_row.new.out))
    (sym (lines_at found c.args.rows.now c.loop-row.row-index _ c.loop-row-test.true))
    (AppendsPrefix-behind _ _ _ _ _ _ c.loop-row.invariant.lines c.in_err-put_row.ensures.line))

pub loop-row-preserved : goal.loop-row-preserved
loop-row-preserved g c =
    let found : Row → Option EntryValue = λ row. slice_get c.args.captures.now row.number in
    record {
      lines = subst (Appends (g.O.Output.written c.args.out.now) (g.O.Output.written c.put_row.new.out))
          (sym (lines_more found c.args.rows.now c.loop-row.row-index _ c.loop-row-test.true))
          (Appends-join _ _ _ _ _ c.loop-row.invariant.lines c.in_ok-put_row.ensures.line);
      failures = c.in_ok-put_row.ensures.failures ∙ c.loop-row.invariant.failures;
    }
