use Rattle.warc_head.proofs.Words.{ℕ, refl, arith, zip2_splat, length-chunk, chunk, joined}
use Rattle.warc_head.proofs.Words.{is_name_byte}
use Rattle.std.proofs.Common.{leb, cond, bit_and}
use Rattle.httparse.proofs.LaneLemmas.{splat_is, passes_in}
use Rattle.warc_head.proofs.lanes.run_of_letters.Goals as goal

pub returns : goal.returns
returns c =
    let v = chunk c.args.at 16 c.args.text.now in
    let long = length-chunk c.args.at 16 c.args.text.now c.requires in
    let lower = joined _ _ _ v (zip2_splat {Y = ℕ} _ v 16 32 long) (splat_is v 16 97 long) in
    let others = joined (λ a b. cond (leb a b) 255 0) _ _ v (splat_is v 16 26 long) lower in
    passes_in is_name_byte c.args.text.now c.args.at 16 _ _ c.requires (omega arith) c.type_inv.text c.first_set.ensures _
    (joined bit_and _ _ v others (zip2_splat {Y = ℕ} _ v 16 45 long)) refl
