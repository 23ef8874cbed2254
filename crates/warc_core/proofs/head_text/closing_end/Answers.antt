use Rattle.warc_core.proofs.Words.{◌+◌, length, drop, arith, length-drop}
use Rattle.std.proofs.lemmas.List.{take_rest}
use Rattle.warc_core.proofs.ClosingLemmas.{begins-occurs, occurs-begins, occurs-before, found-first}
use Rattle.warc_core.proofs.ClosingLemmas.{found-none, NoneBetween, none-behind, none-in-run}
use Rattle.warc_core.proofs.ClosingLemmas.{none-at}
use Rattle.warc_core.proofs.head_text.closing_end.Goals.{After-run_to_closing-run}
use Rattle.warc_core.proofs.head_text.closing_end.Goals as goal

none : (c : After-run_to_closing-run)
    → NoneBetween c.args.text.now c.args.before (c.blocks-2.at + c.run_to_closing-run.result)
none c = none-in-run _ _ _ c.blocks-2.invariant.none _ c.run_to_closing-run.ensures.none

pub returns-then-begins_with_closing : goal.returns-then-begins_with_closing
returns-then-begins_with_closing c =
    let none = none (goal.at.returns-then-begins_with_closing c).After-run_to_closing-run in
    found-first _ _ _ none (grind arith) (grind (arith, begins-occurs, take_rest))

pub blocks-2-preserved-then-run-lt-LANES : goal.blocks-2-preserved-then-run-lt-LANES
blocks-2-preserved-then-run-lt-LANES c =
    let before = none (goal.at.blocks-2-preserved-then-run-lt-LANES c).After-run_to_closing-run in
    let none = none-at _ _ _ before (λ h. grind (arith, occurs-begins)) in
    grind arith

pub blocks-2-preserved : goal.blocks-2-preserved
blocks-2-preserved c = grind (arith, none (goal.at.blocks-2-preserved c).After-run_to_closing-run)

pub returns-in-Some : goal.returns-in-Some
returns-in-Some c =
    let kept = c.blocks-2.invariant in
    let f = rw take_rest at c.in-Some.ensures in
    let none = none-behind _ _ _ kept.none c.in-Some.after kept.within (λ k l. f.0.before k (omega arith) l) in
    found-first _ _ _ none (omega arith) (occurs-before _ _ _ kept.within f.1)

pub returns-in-None : goal.returns-in-None
returns-in-None c =
    let kept = c.blocks-2.invariant in
    let f = rw take_rest at c.in-None.ensures in
    let none = none-behind _ _ _ kept.none (length (drop c.blocks-2.at c.args.text.now)) kept.within
    (λ k l. f k (omega arith) (omega arith)) in
    found-none _ _ _ none (grind (arith, length-drop))
