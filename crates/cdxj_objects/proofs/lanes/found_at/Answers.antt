use Rattle.std.proofs.Common.{arith}
use lib.Lanes.{chunk}
use Rattle.std.proofs.lemmas.Simd.{length-chunk, zip2_splat}
use Rattle.cdxj_objects.proofs.LaneLemmas.{either_first}
use Rattle.cdxj_objects.proofs.lanes.found_at.Goals as goal

pub returns : goal.returns
returns c =
    let a = c.args.first in
    let b = c.args.second in
    let v = chunk c.args.at 16 c.args.text.now in
    let all = length-chunk c.args.at 16 c.args.text.now c.requires in
    let found = either_first a b v _ all (grind (arith, zip2_splat)) in
    record { first = found.0; some = found.1 }
