use Rattle.warc_head.proofs.Words.{◌≡◌, refl, arith, length, All, trim, IsWithin, between, field_at}
use Rattle.warc_head.proofs.Words.{fields_at}
use Rattle.std.proofs.Common.{subst}
use Rattle.warc_head.proofs.SpanLemmas.{piece_added, place_longer, old_fields, between_more}
use Rattle.warc_head.proofs.continuing.continue_field.Goals as goal

pub returns-clause-fields : goal.returns-clause-fields
returns-clause-fields c =
    let text = c.args.text.now.items in
    let piece : between c.trimmed-start.result.0 c.trimmed-start.result.1 c.value_at_end.new.text.items
    ≡ trim (between c.args.from c.args.to text) = grind (arith, between_more) in
    let old = rw c.in-Some.ensures.items at c.requires.spans in (
      fields_at text c.pop.new.self.items,
      field_at text c.in-Some.last,
      grind (arith, old_fields),
      grind (arith, piece_added),
    )

pub returns-clause-within : goal.returns-clause-within
returns-clause-within c =
    let kept = c.in_ok-value_start.ensures in
    let old = subst (All (IsWithin (length c.args.text.now.items))) c.in-Some.ensures.items c.requires.spans in
    rw c.in_ok-push.ensures.items (place_longer _ _ _ _ kept.text.0 _ _ _ old kept.text.1 kept.value kept.within
    c.in_ok-join.ensures refl refl (omega (arith, c.len.ensures)))
