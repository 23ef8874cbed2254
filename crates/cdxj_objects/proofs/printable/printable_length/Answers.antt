use Rattle.std.proofs.Common.{◌∙◌, sym, arith}
use Rattle.std.proofs.lemmas.Bool.{cond-false, ne_eqb}
use Rattle.cdxj_objects.specs.Plain.{is_printable_ascii}
use Rattle.cdxj_objects.proofs.LaneLemmas.{last_run, run_ends, run_goes_on}
use Rattle.cdxj_objects.proofs.printable.printable_length.Goals as goal

pub returns-then-others-ne0 : goal.returns-then-others-ne0
returns-then-others-ne0 c =
    let text = c.args.text.now in
    let end = c.by_lanes.end in
    let run = sym (cond-false _ _ _ (ne_eqb _ _ c.if-others-ne0.true)) ∙ c.others_at-others.ensures.first in
    let few = c.others_at-others.ensures.some (omega arith) in
    omega (arith, run, few, run_ends is_printable_ascii end 32 text (omega arith) (omega (arith, run, few)))

pub by_lanes-preserved : goal.by_lanes-preserved
by_lanes-preserved c = grind (arith, run_goes_on)

pub returns-then-rest-ne0 : goal.returns-then-rest-ne0
returns-then-rest-ne0 c =
    let run = sym (cond-false _ _ _ (ne_eqb _ _ c.if-rest-ne0.true)) ∙ c.others_at-rest.ensures.first in
    omega (arith, run, last_run is_printable_ascii 32 c.args.text.now (omega arith) (omega arith))

pub returns-then-text-ge-LANES : goal.returns-then-text-ge-LANES
returns-then-text-ge-LANES c = grind (arith, last_run is_printable_ascii 32 c.args.text.now)
