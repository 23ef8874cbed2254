use Rattle.outcomes.proofs.StatusLemmas.{zero_is_done}
use Rattle.outcomes.proofs.exit_status.status_zero_is_done.Goals as goal

pub returns : goal.returns
returns c = zero_is_done
