use Rattle.index_core.proofs.CallLemmas.{sound_are_indexed}
use Rattle.index_core.proofs.laws.held_captures_have_their_lines.Goals as goal

pub returns : goal.returns
returns c = sound_are_indexed
