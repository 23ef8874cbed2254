use Rattle.merge_core.proofs.Words.{[], ◌≡◌, ◌≤◌, AllGaveOnce, AllOpenedWithin, AreOpened, EachDone, IsLeast, Ready}
use Rattle.merge_core.proofs.Words.{drop, inputs, length, map, search_steps, take, zip}
use Rattle.cdxj_places.specs.PairViews.{pair_view}
use Rattle.merge_core.proofs.state.MergeState.open_at.Given as goal

abbrev pub invariant-loop-i : goal.invariant-loop-i
invariant-loop-i g l = record {
  text : map g.S.Source.text l.sources ≡ map g.S.Source.text l.fn.sources;
  extent : map g.S.Source.extent l.sources ≡ map g.S.Source.extent l.fn.sources;
  failures : map g.S.Source.failures l.sources ≡ map g.S.Source.failures l.fn.sources;
  most_lines : l.merge.most_lines ≡ 0;
  count : length l.merge.cursors.items ≡ l.i;
  ready : Ready (g.R.Range.past l.range) g.S.Source (take l.i l.sources) l.merge;
  fresh : EachDone (g.R.Range.past l.range) g.S.Source.text (λ ms. ms ≡ []) (take l.i l.sources) (inputs l.merge);
  probes : l.probes ≤ search_steps g.S.Source (take l.i l.sources);
  left : drop l.i l.sources ≡ drop l.i l.fn.sources;
  spent : AllOpenedWithin g.S.Source l.fn.sources l.sources;
  opened : AreOpened g.S.Source (pair_view l.start) (take l.i l.fn.sources) (zip l.sources l.merge.cursors.items);
  once : IsLeast (pair_view l.start) → AllGaveOnce g.S.Source l.fn.sources l.sources;
}
