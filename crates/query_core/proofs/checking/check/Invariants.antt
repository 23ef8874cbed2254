use Rattle.query_core.proofs.Words.{◌+◌, ◌-◌, ◌≡◌, ◌≤◌, option_map}
use Rattle.source_core.specs.Cursors.{Stands, reach}
use Rattle.query_core.proofs.CheckLemmas.{CheckedTo}
use Rattle.query_core.proofs.checking.check.Given as goal

abbrev pub invariant-lines : goal.invariant-lines
invariant-lines g l = record {
  text : g.S.Source.text l.source ≡ g.S.Source.text l.fn.source;
  extent : g.S.Source.extent l.source ≡ g.S.Source.extent l.fn.source;
  failures : g.S.Source.failures l.source ≡ g.S.Source.failures l.fn.source;
  stands : Stands (g.S.Source.text l.source) (g.S.Source.extent l.source) l.cursor;
  gave : g.S.Source.gave l.source ≤ g.S.Source.gave l.fn.source + reach l.cursor;
  inside : reach l.cursor ≤ g.S.Source.extent l.fn.source;
  offset : l.offset ≡ l.cursor.at;
  checked : CheckedTo (g.S.Source.text l.fn.source) l.cursor.at l.cursor.count (option_map (λ b. b.value) l.previous);
}

abbrev pub decreases-lines : goal.decreases-lines
decreases-lines g l = g.S.Source.extent l.fn.source - l.cursor.at
