use Rattle.member_tests.proofs.ReadMembers.{members_are_read, members_are_refused}
use Rattle.member_tests.proofs.examples.literal_members_are_read.Goals as goal

pub returns-clause-read : goal.returns-clause-read
returns-clause-read c = members_are_read

pub returns-clause-refused : goal.returns-clause-refused
returns-clause-refused c = members_are_refused
