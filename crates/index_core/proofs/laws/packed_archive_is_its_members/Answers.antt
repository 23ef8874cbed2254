use Rattle.index_core.proofs.MemberRowLemmas.{members_are_packed, packed_is_members}
use Rattle.index_core.proofs.laws.packed_archive_is_its_members.Goals as goal

pub returns-clause-members : goal.returns-clause-members
returns-clause-members c = packed_is_members

pub returns-clause-packed : goal.returns-clause-packed
returns-clause-packed c = members_are_packed
