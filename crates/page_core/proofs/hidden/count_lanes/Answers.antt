use Rattle.std.proofs.Common.{arith}
use Rattle.std.proofs.lemmas.Simd.{length-chunk, zip2_splat}
use Rattle.page_core.proofs.HiddenLemmas.{lanes_counted}
use Rattle.page_core.proofs.hidden.count_lanes.Goals as goal

pub returns : goal.returns
returns c = grind (arith, length-chunk c.args.at 16 c.args.bytes.now c.requires, lanes_counted, zip2_splat)
