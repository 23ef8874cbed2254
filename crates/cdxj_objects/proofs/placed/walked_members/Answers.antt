use Rattle.std.proofs.Common.{ap, arith}
use Rattle.cdxj_objects.proofs.PlacedLaw.{walked_placed}
use Rattle.cdxj_objects.proofs.placed.walked_members.Goals as goal

pub members_at-requires : goal.members_at-requires
members_at-requires c = rw c.as_bytes.ensures.value c.requires

pub returns : goal.returns
returns c =
    let texts = c.texts_at-texts.ensures in
    let name = ap (λ t. t.filename) texts in
    walked_placed c.args.text.now c.args.object c.in_ok-spans.spans c.utf8.text
    (rw c.as_bytes.ensures.value at c.in_ok-spans.ensures) (grind (arith, name)) (grind arith)
