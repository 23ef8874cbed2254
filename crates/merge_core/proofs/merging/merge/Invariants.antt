use Rattle.merge_core.proofs.Words.{[], ◌≡◌, HoldsFew, SoFar, map, to_come}
use Rattle.merge_core.proofs.merging.merge.Given as goal

abbrev pub invariant-loop-rest : goal.invariant-loop-rest
invariant-loop-rest g l = record {
  empty : l.rest.items ≡ [];
  reads : map g.S.Source.failures l.sources ≡ map g.S.Source.failures l.fn.sources;
  writes : g.O.Output.failures l.out ≡ g.O.Output.failures l.fn.out;
  further : (g.K.Sink.Enough l.fn.sink → ⊥) → g.K.Sink.Enough l.sink → ⊥;
  most_lines : HoldsFew g.S.Source l.fn.sources l.fn.merge.most_lines l.merge.most_lines;
  came : SoFar g.K.Sink (g.R.Range.past l.range) g.S.Source
      (record { sources = l.fn.sources; merge = l.fn.merge; sink = l.fn.sink; written = g.O.Output.written l.fn.out })
      (record { sources = l.sources; merge = l.merge; sink = l.sink; written = g.O.Output.written l.out });
}

abbrev pub decreases-loop-rest : goal.decreases-loop-rest
decreases-loop-rest g l = to_come g.S.Source.extent l.sources l.merge
