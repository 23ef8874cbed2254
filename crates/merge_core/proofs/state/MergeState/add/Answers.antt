use Rattle.merge_core.proofs.Words.{[], IsInput, arith, boxed_line, input_of}
use Rattle.source_core.proofs.LongestLines.{first_within}
use Rattle.merge_core.proofs.{InputLemmas.bad_named, OpenLemmas.first_read, OpenLemmas.input_fresh}
use Rattle.merge_core.proofs.state.MergeState.add.Goals.{After-next_line}
use Rattle.merge_core.proofs.state.MergeState.add.Goals as goal

-- before the first line is read
fresh : (g : _) (c : After-next_line g) → IsInput (g.R.Range.past c.args.range.now)
    (g.S.Source.text c.args.source.now) (g.S.Source.extent c.args.source.now) (input_of c.args.cursor [])
fresh g c = input_fresh (g.R.Range.past c.args.range.now) _ _ c.args.cursor c.requires.stands c.requires.fresh.none
    c.requires.fresh.there c.requires.begins

pub returns-in_err-next : goal.returns-in_err-next
returns-in_err-next g c = grind (arith, bad_named, fresh, first_within)

pub returns-in_err-push : goal.returns-in_err-push
returns-in_err-push g c = grind (arith, first_within)

pub returns-in_err-enqueue : goal.returns-in_err-enqueue
returns-in_err-enqueue g c = grind (arith, first_within)

pub returns-clause-spent : goal.returns-clause-spent
returns-clause-spent g c = grind (arith, first_within)

pub returns-clause-added : goal.returns-clause-added
returns-clause-added g c =
    let here = (goal.at.returns-clause-added g c).After-next_line in
    let ok = c.in_ok-next.ensures in
    let was : IsInput (g.R.Range.past c.args.range.now) (g.S.Source.text c.next_line.new.source)
    (g.S.Source.extent c.next_line.new.source) (input_of c.args.cursor []) = let f = fresh g here in grind arith in
    let read = first_read was c.requires.fresh.none c.next_line.new.cursor (boxed_line c.in_ok-next.next) _ ok.stands
    c.next_line.ensures.moved.start_kept (grind arith) (λ t e. c.next_line.ensures.most t (grind arith))
    (λ t e. ok.next t (grind arith)) c.within-first.ensures in
    grind (arith, fresh)
