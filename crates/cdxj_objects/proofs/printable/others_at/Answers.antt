use Rattle.std.proofs.Common.{ℕ, bit_or, cond, ltb}
use lib.Lanes.{chunk}
use Rattle.std.proofs.lemmas.Simd.{length-chunk, zip2_of_maps, zip2_splat, zip2_splat_left}
use Rattle.cdxj_objects.proofs.LaneLemmas.{outside_first}
use Rattle.cdxj_objects.proofs.printable.others_at.Goals as goal

-- what a vector has for two bytes that were compared
abbrev below : ℕ → ℕ → ℕ
below a b = cond (ltb a b) 255 0

pub returns : goal.returns
returns c =
    let v = chunk c.args.at 32 c.args.text.now in
    let all = length-chunk c.args.at 32 c.args.text.now c.requires in
    let outside = zip2_of_maps bit_or _ _ v (zip2_splat below v 32 32 all) (zip2_splat_left below 127 32 v all) in
    let first = outside_first v _ all outside in
    record { first = first.0; some = first.1 }
