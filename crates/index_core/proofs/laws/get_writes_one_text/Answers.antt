use Rattle.index_core.proofs.MemberOneText.{member_front, member_one}
use Rattle.index_core.proofs.OneRecordLemmas.{fetches_one_text, fetches_front, fetches_at_one_text}
use Rattle.index_core.proofs.laws.get_writes_one_text.Goals as goal

pub returns-clause-offset : goal.returns-clause-offset
returns-clause-offset c = fetches_one_text

pub returns-clause-offset_front : goal.returns-clause-offset_front
returns-clause-offset_front c = fetches_front

pub returns-clause-length : goal.returns-clause-length
returns-clause-length c = fetches_at_one_text

pub returns-clause-member : goal.returns-clause-member
returns-clause-member c = member_one

pub returns-clause-member_front : goal.returns-clause-member_front
returns-clause-member_front c = member_front
