use Rattle.warc_head.proofs.Words.{arith, ◌≡◌, true, field_at}
use Rattle.warc_head.specs.Names.{same_name}
use Rattle.warc_head.proofs.occurrence.Occurrence.count.Goals as goal

pub returns-then-is_named : goal.returns-then-is_named
returns-then-is_named g c =
    let same : same_name (field_at c.args.text.now c.args.span).name c.args.wanted.now ≡ true = grind arith in
    λ values occurs. rw same (c.with_span.ensures c.args.text.now values c.requires occurs)
