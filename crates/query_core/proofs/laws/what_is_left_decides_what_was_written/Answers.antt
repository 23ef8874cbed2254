use Rattle.query_core.proofs.FrontLemmas.{taken_one}
use Rattle.query_core.proofs.laws.what_is_left_decides_what_was_written.Goals as goal

pub returns : goal.returns
returns c = taken_one
