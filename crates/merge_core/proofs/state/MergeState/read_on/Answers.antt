use Rattle.merge_core.proofs.Words.{[], ◌≡◌, AllByRecursion, AllZip, AreReadTo, CursorState, EachDone, List, Member}
use Rattle.merge_core.proofs.Words.{MergeInput, MergeState, Some, Upto, ap, arith, boxed_line, common_steps, get_or}
use Rattle.merge_core.proofs.Words.{get_or-map, get_or_default, input_of, inputs, length-map, map-set, member_pair}
use Rattle.merge_core.proofs.Words.{option_list, refl, set, zip}
use Rattle.merge_core.proofs.CountLemmas.{are_read_to, read_on}
use Rattle.merge_core.proofs.Many.{Move, map_set_same, moved_set, unread_set}
use Rattle.merge_core.proofs.StateLemmas.{idle_here, input_at, long_of, waited_aligned, waited_inputs, waited_length}
use Rattle.merge_core.proofs.state.MergeState.read_on.Goals.{After-read_group}
use Rattle.merge_core.proofs.state.MergeState.read_on.Goals as goal

pub read_group-requires : goal.read_group-requires
read_group-requires g c =
    let was : MergeInput = input_of c.index_mut.result.now [] in
    let due = c.requires.due c.index-sources-i.result was in
    let here = idle_here c.requires.aligned c.requires.inside was due.none c.index_mut.result.now
    c.index_mut.ensures.value in
    grind (arith, here, input_at)

-- the source was read on
module _ (g : _) (c : After-read_group g) where
  abbrev was : MergeInput
  was = input_of c.index_mut.result.now []

  none : (get_or (inputs c.args.self.now) c.args.i was).waits ≡ []
  none = (c.requires.due c.index-sources-i.result was).none

  here : get_or (inputs c.args.self.now) c.args.i was ≡ was
  here = idle_here c.requires.aligned c.requires.inside was none c.index_mut.result.now
      c.index_mut.ensures.value

  -- its cursor has moved
  abbrev cursors_now : List CursorState
  cursors_now = set c.args.self.now.cursors.items c.args.i c.read_group.new.cursor

  moved : AllZip (Move g.S.Source) (zip c.args.sources.now c.args.self.now.cursors.items)
      (zip (set c.args.sources.now c.args.i c.read_group.new.source) cursors_now)
  moved = moved_set g.S.Source _ _ _ c.index-sources-i.result _ c.index_mut.result.now _ c.requires.aligned.same
      c.requires.inside (grind arith)

  -- no source was read further than the pair
  most : EachDone (g.R.Range.past c.args.range.now) g.S.Source.text
      (AllByRecursion (λ m. Upto (member_pair m) (member_pair c.args.first.now))) c.args.sources.now
      (inputs c.args.self.now)
      → AreReadTo (g.R.Range.past c.args.range.now) g.S.Source.text (Some (member_pair c.args.first.now))
      (set c.args.sources.now c.args.i c.read_group.new.source) cursors_now
  most low = read_on _ g.S.Source _ c.args.sources.now _ c.args.i c.read_group.new.source c.read_group.new.cursor
      (are_read_to (g.R.Range.past c.args.range.now) g.S.Source (Some (member_pair c.args.first.now)) c.args.sources.now
      c.args.self.now c.requires.aligned.input low) (grind arith)

pub returns-in-Err-clause-moved : goal.returns-in-Err-clause-moved
returns-in-Err-clause-moved g c = moved g (goal.at.returns-in-Err-clause-moved g c).After-read_group

pub returns-in-Err-clause-fault : goal.returns-in-Err-clause-fault
returns-in-Err-clause-fault g c =
    record { counts = grind (arith, length-map, map-set, get_or-map, map_set_same); names = grind (arith, common_steps) }

pub returns-in-Err-clause-most : goal.returns-in-Err-clause-most
returns-in-Err-clause-most g c = most g (goal.at.returns-in-Err-clause-most g c).After-read_group

pub returns-in_err-enqueue-clause-moved : goal.returns-in_err-enqueue-clause-moved
returns-in_err-enqueue-clause-moved g c =
    rw c.enqueue.ensures.kept (moved g (goal.at.returns-in_err-enqueue-clause-moved g c).After-read_group)

pub returns-in_err-enqueue-clause-fault : goal.returns-in_err-enqueue-clause-fault
returns-in_err-enqueue-clause-fault g c = record { counts = grind (arith, map_set_same); names = grind arith }

pub returns-in_err-enqueue-clause-most : goal.returns-in_err-enqueue-clause-most
returns-in_err-enqueue-clause-most g c =
    rw c.enqueue.ensures.kept (most g (goal.at.returns-in_err-enqueue-clause-most g c).After-read_group)

pub returns : goal.returns
returns g c =
    let at = (goal.at.returns g c).After-read_group in
    let old = c.args.self.now in let i = c.args.i in let now = c.read_group.new.cursor in
    let read = c.in-Ok.ensures.read in
    let waits : List Member = option_list (boxed_line c.in-Ok.next) in
    let f = input_of now waits in let is = here g at in
    let cursors = (ap (λ (m : MergeState). m.cursors.items) c.enqueue.ensures.kept) in
    let queue = c.in_ok-enqueue.ensures.queue in
    let inputs_now = waited_inputs c.requires.aligned c.requires.inside (was g at) (none g at) c.enqueue.new.self now
    cursors waits queue read.input.few in
    record {
      moved = grind (arith, inputs_now, moved);
      fault = grind (arith, map_set_same);
      read = record {
        aligned = waited_aligned c.requires.aligned c.requires.inside (was g at) (none g at) c.enqueue.new.self now
            cursors waits queue c.read_group.new.source read.input;
        fewer =
            let longer = waited_length c.requires.aligned c.requires.inside (was g at) (none g at) c.enqueue.new.self now
            cursors waits queue in
            let left = unread_set g.S.Source c.args.sources.now old.cursors.items i c.index-sources-i.result
            c.read_group.new.source c.index_mut.result.now now c.requires.aligned.same c.requires.inside in
            rw cursors (grind arith);
        took = record {
          source = c.read_group.new.source;
          input = f;
          source_is = refl;
          inputs_are = inputs_now;
          text_is = grind (arith, get_or_default);
          taken = read.taken;
          rest_is = read.rest_is;
          alike = read.alike;
          done_is = λ d t e. rw (get_or_default (inputs old) i d (was g at) (omega (arith, long_of c.requires.aligned)), is)
              (read.done_is t e);
        };
        settled = read.settled;
        later = read.later;
        queue_is = queue;
      };
      most = grind (arith, inputs_now, most);
      most_lines = grind arith;
    }
