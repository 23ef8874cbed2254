use Rattle.cdxj_core.proofs.MemberLemmas.{entry_pair_is}
use Rattle.cdxj_core.proofs.laws.line_begins_with_its_pair.Goals as goal

pub returns : goal.returns
returns c = entry_pair_is
