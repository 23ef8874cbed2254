use Rattle.warc_head.proofs.Words.{refl, arith, zip2_splat, length-chunk, chunk, joined, is_content}
use Rattle.httparse.proofs.LaneLemmas.{run_in}
use Rattle.warc_head.proofs.lanes.run_to_break.Goals as goal

pub returns : goal.returns
returns c =
    let v = chunk c.args.at 32 c.args.text.now in
    let long = length-chunk c.args.at 32 c.args.text.now c.requires in
    run_in is_content c.args.text.now c.args.at 32 _ _ c.requires (omega arith) c.type_inv.text c.first_set.ensures _
    (joined _ _ _ v (zip2_splat _ v 32 13 long) (zip2_splat _ v 32 10 long)) refl
