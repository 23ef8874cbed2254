use Rattle.std.proofs.Common.{ltb, arith}
use lib.Lanes.{chunk}
use Rattle.std.proofs.lemmas.List.Sums.{prefix_len-le-length}
use Rattle.std.proofs.lemmas.Simd.{length-chunk, zip2_splat, zip2_splat_left, first_set_mask_l}
use Rattle.cdxj_objects.proofs.LaneLemmas.{no_digit, digit_masks, digit_runs}
use Rattle.cdxj_objects.proofs.lanes.digits_before.Goals as goal

pub returns-clause-digits : goal.returns-clause-digits
returns-clause-digits c =
    let v = chunk c.args.at 16 c.args.text.now in
    let all = length-chunk c.args.at 16 c.args.text.now c.requires in
    grind (arith, digit_masks, zip2_splat, zip2_splat_left, ltb, first_set_mask_l no_digit v 16 all, digit_runs v)

pub returns-clause-most : goal.returns-clause-most
returns-clause-most c = grind (arith, returns-clause-digits, prefix_len-le-length, length-chunk)
