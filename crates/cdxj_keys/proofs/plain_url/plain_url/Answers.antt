use Rattle.std.proofs.Common.{arith}
use Rattle.std.proofs.lemmas.Grind.{common_steps}
use Rattle.cdxj_keys.proofs.plain_url.plain_url.Goals as goal

pub is_usual-requires-clause-host : goal.is_usual-requires-clause-host
is_usual-requires-clause-host c = grind (arith, common_steps)

pub is_usual-requires-clause-tail : goal.is_usual-requires-clause-tail
is_usual-requires-clause-tail c = grind (arith, common_steps)

pub is_plain_tail-requires : goal.is_plain_tail-requires
is_plain_tail-requires c = grind (arith, common_steps)
