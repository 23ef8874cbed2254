use Rattle.index_core.proofs.Words.{◌≡◌, take, slice_get, Appends, filter_map, entries_text}
use Rattle.index_core.proofs.index_lines.put_lines.Given as goal

abbrev pub invariant-loop-row : goal.invariant-loop-row
invariant-loop-row g l = record {
  lines : Appends (g.O.Output.written l.fn.out) (g.O.Output.written l.out)
      (entries_text (filter_map (λ row. slice_get l.captures row.number) (take l.row-index l.rows)));
  failures : g.O.Output.failures l.out ≡ g.O.Output.failures l.fn.out;
}
