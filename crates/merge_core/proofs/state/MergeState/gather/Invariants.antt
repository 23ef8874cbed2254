use Rattle.merge_core.proofs.Words.{◌+◌, ◌<◌, ◌∷◌, ◌≡◌, AllByRecursion, AreSettled, IsAbove, IsDueAt, IsSettled}
use Rattle.merge_core.proofs.Words.{MergeInput, NoneBelow, Option, Pair, boxed_lines, inputs, length, map, member_pair}
use Rattle.merge_core.proofs.Words.{set, to_come, waiting_pair}
use Rattle.merge_core.proofs.MergeLemmas.{Gathers}
use Rattle.merge_core.proofs.state.MergeState.gather.Given as goal

abbrev pub invariant-sources : goal.invariant-sources
invariant-sources g l = record {
  gathers : Gathers (g.R.Range.past l.range) g.S.Source l.fn.sources
      l.fn.self (member_pair l.keyed) (l.i + 1) l.sources l.self (l.keyed ∷ boxed_lines l.rest.items);
  most_lines : l.self.most_lines ≡ l.fn.self.most_lines;
  inside : l.i < length l.sources;
  due : IsDueAt (g.R.Range.past l.range) g.S.Source.text (member_pair l.keyed) l.i l.sources l.self;
  settled : (s : g.row.S.Denot) → (f : MergeInput) → IsSettled (g.R.Range.past l.range) (g.S.Source.text s) f
      → AreSettled (g.R.Range.past l.range) g.S.Source (set l.sources l.i s) (set (inputs l.self) l.i f);
  failures : map g.S.Source.failures l.sources ≡ map g.S.Source.failures l.fn.sources;
  above : (b : Option Pair) → AllByRecursion (λ w. IsAbove b (waiting_pair w)) l.fn.self.queue
      → IsAbove b (member_pair l.keyed);
  least : NoneBelow (member_pair l.keyed) l.fn.self.queue;
  fewer : to_come g.S.Source.extent l.sources l.self < to_come g.S.Source.extent l.fn.sources l.fn.self;
}

abbrev pub decreases-sources : goal.decreases-sources
decreases-sources g l = to_come g.S.Source.extent l.sources l.self
