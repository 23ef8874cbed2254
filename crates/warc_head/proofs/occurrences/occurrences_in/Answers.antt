use Rattle.warc_head.proofs.Words.{take, FieldSpan, fields_at}
use Rattle.std.proofs.lemmas.List.{take_more, map-append}
use Rattle.warc_head.proofs.occurrences.occurrences_in.Goals as goal

pub loop-span-init : goal.loop-span-init
loop-span-init c = c.none-found.ensures c.args.text.now

pub loop-span-preserved : goal.loop-span-preserved
loop-span-preserved c =
    let no_place : FieldSpan = record { name_start = 0; name_end = 0; value_start = 0; value_end = 0 } in
    rw (take_more c.args.spans.now c.loop-span.span-index no_place c.loop-span-test.true, map-append)
    (c.count.ensures (fields_at c.args.text.now (take c.loop-span.span-index c.args.spans.now)) c.loop-span.invariant)
