use Rattle.index_core.proofs.PackedFetchLemmas.{packed_captures_are_fetched}
use Rattle.index_core.proofs.PackedPlaceLemmas.{packed_captures_stand}
use Rattle.index_core.proofs.laws.packed_captures_stand_in_members.Goals as goal

pub returns-clause-stand : goal.returns-clause-stand
returns-clause-stand c = packed_captures_stand

pub returns-clause-fetched : goal.returns-clause-fetched
returns-clause-fetched c = packed_captures_are_fetched
