use Rattle.index_core.proofs.PackedCaptureLemmas.{members_are_accepted, members_have_captures}
use Rattle.index_core.proofs.PackedRowLemmas.{members_are_records}
use Rattle.index_core.proofs.laws.packed_records_keep_their_captures.Goals as goal

pub returns-clause-records : goal.returns-clause-records
returns-clause-records c = members_are_records

pub returns-clause-captures : goal.returns-clause-captures
returns-clause-captures c = members_have_captures

pub returns-clause-accepted : goal.returns-clause-accepted
returns-clause-accepted c = members_are_accepted
