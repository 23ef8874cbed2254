use Rattle.std.proofs.Common.{arith}
use Rattle.cdxj_objects.proofs.PlainCuts.{text_after}
use Rattle.cdxj_objects.proofs.plain.end_after.Goals as goal

pub returns-then-has_front : goal.returns-then-has_front
returns-then-has_front c =
    text_after c.args.text.now _ c.args.at c.args.front.length _ (c.has_front.ensures.same c.if-has_front.true)
    (omega (arith, c.has_front.ensures.long c.if-has_front.true)) c.place_of_either.ensures
