use Rattle.merge_core.proofs.Words.{◌<◌, ◌≡◌, all_zipped_more, ap, arith, common_steps, digits, get_or, get_or-map}
use Rattle.merge_core.proofs.Words.{input_of, inputs, length, length-append, length-map, map, map-set, sum, sum-map}
use Rattle.merge_core.proofs.Words.{sum_by_push, take, take_all, take_more, take_more_set, zip}
use Rattle.merge_core.proofs.Many.{map_set_same, two_put, two_same}
use Rattle.merge_core.proofs.{CountLemmas.left_after, CountLemmas.left_here, SourceLemmas.once_none}
use Rattle.std.proofs.lemmas.Simd.{map-map}
use Rattle.merge_core.proofs.OpenLemmas.{added_inputs, ready_added, zip_none, zip_push}
use Rattle.merge_core.proofs.state.MergeState.open_at.Goals as goal

pub loop-i-init : goal.loop-i-init
loop-i-init g c = grind (arith, once_none, two_same, zip_none)

pub loop-i-preserved : goal.loop-i-preserved
loop-i-preserved g c =
    let inv = c.loop-i.invariant in let ok = c.in-Ok.ensures in let added = ok.added in
    let olds = c.args.sources.now in let ss = c.loop-i.sources in let m = c.loop-i.merge in
    let fs = inputs m in let i = c.loop-i.i in let a = c.index-sources-i.result in let s = c.add_from.new.source in
    let f = input_of added.cursor added.first in
    let inside : i < length ss = omega arith in
    let now = added_inputs inv.ready added in let ready = ready_added inv.ready added in
    let front = take_more_set ss i s inside in
    let same_here : get_or ss i a ≡ get_or olds i a = left_here olds ss i a inv.left in
    record {
      text = grind (arith, map_set_same);
      extent = grind (arith, map_set_same);
      failures = grind (arith, map_set_same);
      most_lines = grind arith;
      count = grind (arith, length-append);
      ready = rw front ready;
      fresh = rw (front, now) (all_zipped_more _ (take i ss) fs s f inv.fresh added.fresh);
      probes = grind (arith, take_more_set, sum-map, sum_by_push);
      left = grind (arith, left_after);
      spent = grind (arith, two_put);
      once = grind (arith, two_put);
      opened = rw (
        added.cursors_are,
        zip_push ss m.cursors.items i s added.cursor inv.count inside,
        take_more olds i a (omega arith),
      )
          (all_zipped_more _ (take i olds) (zip ss m.cursors.items) (get_or olds i a) (s, added.cursor) inv.opened
          (rw same_here at added.cursor_is));
    }

pub returns-in-Err-clause-sources : goal.returns-in-Err-clause-sources
returns-in-Err-clause-sources g c = grind (arith, common_steps, map_set_same, length-map, map-set, get_or-map)

pub returns-in-Err-clause-spent : goal.returns-in-Err-clause-spent
returns-in-Err-clause-spent g c =
    let h = left_here c.args.sources.now c.loop-i.sources c.loop-i.i c.index-sources-i.result c.loop-i.invariant.left in
    grind (arith, two_put)

pub returns-in-Err-clause-once : goal.returns-in-Err-clause-once
returns-in-Err-clause-once g c = λ k.
    let h = left_here c.args.sources.now c.loop-i.sources c.loop-i.i c.index-sources-i.result c.loop-i.invariant.left in
    grind (arith, two_put)

pub returns : goal.returns
returns g c =
    let same = ap sum (simp map-map at (ap (map digits) c.loop-i.invariant.extent)) in grind (arith, take_all)
