use Rattle.index_core.proofs.GrownLemmas.{grown_keeps}
use Rattle.index_core.proofs.laws.grown_archive_keeps_its_captures.Goals as goal

pub returns : goal.returns
returns c = grown_keeps
