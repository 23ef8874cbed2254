use Rattle.std.proofs.Common.{◌≡◌, ◌≤◌, ◌-◌, ℕ, length, ap, ◌∙◌, subst, arith, length-drop}
use Rattle.deflate_bits.specs.declared.fault.DeflateFault.TheVariants.{Bad}
use Rattle.gzip_members.specs.Bodies.{GoesOn}
use Rattle.gzip_members.proofs.LeftLemmas.{work-ends, work-falls, work-kept}
use Rattle.gzip_members.proofs.members.Members.step.Goals as goal

pub returns-then-not-take-clause-nearer : goal.returns-then-not-take-clause-nearer
returns-then-not-take-clause-nearer g c = λ held read.
    let old = c.args.self.now in
    rw c.refuse.ensures.stage (work-ends old.body.stage Bad old.body.window c.refuse.new.self.window old.source.passed c.take.new.self.passed
    held (length c.take.new.self.ahead) c.requires.more c.requires.given)

pub returns-else-not-take-clause-nearer : goal.returns-else-not-take-clause-nearer
returns-else-not-take-clause-nearer g c = λ held read.
    let old = c.args.self.now in let new = c.take.new.self in let b = c.step-taken.new.self in
    let n = c.step-taken.result in
    let size : length c.as_slice.result.now ≡ length old.source.ahead = ap length c.as_slice.ensures in
    let G : ℕ → Type 0 = λ l. GoesOn old.body.stage b.stage b.window c.args.is_whole (l - n) in
    let on : GoesOn old.body.stage b.stage b.window c.args.is_whole (length old.source.ahead - n) = subst G size c.step-taken.ensures.moves in
    let left : length new.ahead ≡ length old.source.ahead - n = ap length c.if-not-take.ensures.taken ∙ length-drop n old.source.ahead in
    let inside : n ≤ length old.source.ahead = omega (arith, c.step-taken.ensures.inside) in
    work-falls old.body.stage b.stage old.body.window b.window c.args.is_whole old.source.passed new.passed held (length old.source.ahead)
    (length new.ahead) n c.requires.more c.requires.given old.source.within new.within c.if-not-take.ensures.passed left inside read on

pub returns-else-not-take-clause-back : goal.returns-else-not-take-clause-back
returns-else-not-take-clause-back g c =
    let old = c.args.self.now in let new = c.take.new.self in let b = c.step-taken.new.self in
    let n = c.step-taken.result in
    let size : length c.as_slice.result.now ≡ length old.source.ahead = ap length c.as_slice.ensures in
    let G : ℕ → Type 0 = λ l. GoesOn old.body.stage b.stage b.window c.args.is_whole (l - n) in
    let on : GoesOn old.body.stage b.stage b.window c.args.is_whole (length old.source.ahead - n) = subst G size c.step-taken.ensures.moves in
    let left : length new.ahead ≡ length old.source.ahead - n = ap length c.if-not-take.ensures.taken ∙ length-drop n old.source.ahead in
    let inside : n ≤ length old.source.ahead = omega (arith, c.step-taken.ensures.inside) in
    work-kept old.body.stage b.stage old.body.window b.window c.args.is_whole old.source.passed new.passed (length old.source.ahead)
    (length new.ahead) n c.requires.more c.requires.given new.within c.if-not-take.ensures.passed left inside on
