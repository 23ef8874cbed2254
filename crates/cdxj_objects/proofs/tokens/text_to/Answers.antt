use Rattle.std.proofs.Common.{arith}
use Rattle.cdxj_objects.proofs.WalkLaw.{text_to}
use Rattle.cdxj_objects.proofs.tokens.text_to.Goals as goal

pub returns-then-byte_is : goal.returns-then-byte_is
returns-then-byte_is c =
    text_to c.args.text.now c.args.at c.place_of_either-end.result c.requires (grind arith) (grind arith)
    c.place_of_either-end.ensures (c.byte_is-2.ensures.within c.if-byte_is.true)
    (c.byte_is-2.ensures.is c.if-byte_is.true)
