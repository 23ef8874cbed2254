use Rattle.capture_core.proofs.HeadLemmas.{one_head, front_decides}
use Rattle.capture_core.proofs.laws.block_has_one_head.Goals as goal

pub returns : goal.returns
returns c = record { one = one_head; front = front_decides }
