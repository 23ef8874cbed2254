use Rattle.cdxj_core.proofs.IndexLemmas.{index_stays}
use Rattle.cdxj_core.proofs.MemberLemmas.{entry-higher}
use Rattle.cdxj_core.proofs.laws.line_stays_under_higher_limit.Goals as goal

pub returns-clause-line : goal.returns-clause-line
returns-clause-line c = entry-higher

pub returns-clause-index : goal.returns-clause-index
returns-clause-index c = index_stays
