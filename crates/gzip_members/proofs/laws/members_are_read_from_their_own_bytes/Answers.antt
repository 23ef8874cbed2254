use Rattle.gzip_members.proofs.AloneLemmas.{member_alone}
use Rattle.gzip_members.proofs.StayLemmas.{member_followed}
use Rattle.gzip_members.proofs.laws.members_are_read_from_their_own_bytes.Goals as goal

pub returns-clause-own : goal.returns-clause-own
returns-clause-own c = λ bytes text behind begins reads. member_alone bytes text behind begins reads

pub returns-clause-others : goal.returns-clause-others
returns-clause-others c = λ own more text is. member_followed own more text is
