use Rattle.warc_head.proofs.Words.{arith}
use Rattle.warc_head.proofs.SpanLemmas.{value_later, within_later}
use Rattle.warc_head.proofs.spans.value_of.Goals as goal

pub loop-first-preserved : goal.loop-first-preserved
loop-first-preserved c =
    let cut = c.in-Some.ensures.cases.0 in
    let other = c.if-same_name.ensures in
    record {
      value = grind (arith, value_later);
      within = within_later _ _ c.in-Some.later.now c.in-Some.first.now cut c.loop-first.invariant.within;
    }
