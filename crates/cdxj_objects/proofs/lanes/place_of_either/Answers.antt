use Rattle.std.proofs.Common.{◌∙◌, ◌-◌, sym, length, drop, length-drop, take_all, arith}
use Rattle.std.proofs.lemmas.Bool.{cond-false, ne_eqb}
use Rattle.std.proofs.lemmas.List.{drop-drop}
use Rattle.cdxj_objects.specs.Plain.{is_neither}
use Rattle.cdxj_objects.proofs.LaneLemmas.{front_behind, run_ends, run_goes_on}
use Rattle.cdxj_objects.proofs.lanes.place_of_either.Goals as goal

pub returns-then-found-ne0 : goal.returns-then-found-ne0
returns-then-found-ne0 c =
    let text = c.args.text.now in
    let place = c.by_lanes.place in
    let passes = is_neither c.args.first c.args.second in
    let run = sym (cond-false _ _ _ (ne_eqb _ _ c.if-found-ne0.true)) ∙ c.found_at-found.ensures.first in
    let few = c.found_at-found.ensures.some (omega arith) in
    omega (arith, run, few, run_ends passes place 16 text (omega arith) (omega (arith, run, few)))

pub by_lanes-preserved : goal.by_lanes-preserved
by_lanes-preserved c = grind (arith, run_goes_on)

pub returns-then-holds_lanes : goal.returns-then-holds_lanes
returns-then-holds_lanes c =
    let text = c.args.text.now in
    let passes = is_neither c.args.first c.args.second in
    let at = c.args.at in
    let last = length text - 16 in
    let whole = take_all 16 (drop last text) (grind (arith, length-drop)) in
    let behind = drop-drop (last - at) at text in
    grind (arith, front_behind passes (last - at) (drop at text))
