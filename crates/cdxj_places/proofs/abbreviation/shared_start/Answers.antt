use Rattle.std.proofs.Common.{arith}
use Rattle.std.proofs.lemmas.List.{get_or_default}
use Rattle.cdxj_places.proofs.abbreviation.shared_start.Goals as goal
use Rattle.std.proofs.lemmas.List.{take-take}
use Rattle.std.proofs.lemmas.List.{length-take}

pub loop-thing-preserved : goal.loop-thing-preserved
loop-thing-preserved g c = grind (arith, take-take, length-take, get_or_default)
