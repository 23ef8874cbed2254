use Rattle.std.proofs.Common.{arith}
use Rattle.std.proofs.lemmas.List.Sums.{prefix_len-le-length}
use Rattle.cdxj_objects.specs.Plain.{is_neither}
use Rattle.cdxj_core.proofs.front_pair.front_pair.Goals as goal

pub overflow_add-key : goal.overflow_add-key
overflow_add-key c = grind (arith, prefix_len-le-length (is_neither 32 127) c.args.text.now)
