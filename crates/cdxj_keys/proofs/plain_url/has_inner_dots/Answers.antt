use Rattle.std.proofs.Common.{eq-eqb, arith, length-drop}
use Rattle.std.proofs.lemmas.List.{take_rest}
use Rattle.cdxj_keys.proofs.UsualUrls.{dots_more, dots_end}
use Rattle.cdxj_keys.proofs.plain_url.has_inner_dots.Goals as goal

pub dots-preserved : goal.dots-preserved
dots-preserved c =
    let path = c.args.path.now in
    let found = rw take_rest at c.in-Some.ensures in
    let behind = length-drop c.dots.at path in (
      omega (arith, c.dots.invariant.0, found.0.high, behind),
      dots_more path c.dots.at c.in-Some.dot c.dots.invariant.1
          (λ k l p. found.0.before k (omega arith) l (eq-eqb _ _ p)) (c.follows_slash.ensures c.if-follows_slash.false),
    )

pub returns : goal.returns
returns c _ =
    let path = c.args.path.now in
    let none = rw take_rest at c.in_default.ensures in
    let behind = length-drop c.dots.at path in
    dots_end path c.dots.at c.dots.invariant.1 (λ k l p. none k (omega arith) (omega (arith, behind, l)) (eq-eqb _ _ p))
