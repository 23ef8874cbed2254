use Rattle.std.proofs.Common.{◌+◌, ◌∙◌, length, length-take, take, arith}
use Rattle.cdxj_core.specs.declared.limit.TheConstants.{LINE_LIMIT}
use Rattle.page_core.proofs.PairFront.{pair_front}
use Rattle.page_core.proofs.text_rows.pair_text.Goals as goal

pub slice_bounds-result-end : goal.slice_bounds-result-end
slice_bounds-result-end c =
    let member = c.args.line.now in
    let pair = c.line_begins_with_its_pair.ensures LINE_LIMIT c.line.result.now member c.line.ensures.entry in
    let front = pair_front c.line.result.now member.values.key member.values.stamp pair in
    grind (arith, length-take)

pub returns : goal.returns
returns c =
    let member = c.args.line.now in
    let pair = c.line_begins_with_its_pair.ensures LINE_LIMIT c.line.result.now member c.line.ensures.entry in
    let front = pair_front c.line.result.now member.values.key member.values.stamp pair in
    (λ i. take (length (c.value.ensures i) + 1 + length (c.value-2.ensures i)) c.line.result.now) ∙ front.1
