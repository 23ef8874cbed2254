use Rattle.warc_core.proofs.Words.{◌<◌, ap, arith}
use Rattle.std.proofs.Common.{◌∙◌}
use Rattle.warc_core.specs.Base32.{letter_of}
use Rattle.warc_core.proofs.Bits.{first, second, third, fourth, fifth, sixth, seventh, eighth}
use Rattle.warc_core.proofs.digest_text.letters.Goals as goal

pub returns : goal.returns
returns c =
    let a : c.args.a < 256 = omega arith in
    let b : c.args.b < 256 = omega arith in
    let d : c.args.c < 256 = omega arith in
    let e : c.args.d < 256 = omega arith in
    let f : c.args.e < 256 = omega arith in
    let p = c.letter.ensures ∙ ap letter_of (first _ a) in
    let q = c.letter-2.ensures ∙ ap letter_of (second _ _ a b) in
    let r = c.letter-3.ensures ∙ ap letter_of (third _ b) in
    let s = c.letter-4.ensures ∙ ap letter_of (fourth _ _ b d) in
    let t = c.letter-5.ensures ∙ ap letter_of (fifth _ _ d e) in
    let u = c.letter-6.ensures ∙ ap letter_of (sixth _ e) in
    let v = c.letter-7.ensures ∙ ap letter_of (seventh _ _ e f) in
    grind (arith, eighth)
