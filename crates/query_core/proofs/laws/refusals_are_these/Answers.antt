use Rattle.query_core.proofs.RefusalLemmas.{check_names, sizes_first, too_many_refused, two_before}
use Rattle.query_core.proofs.laws.refusals_are_these.Goals as goal

pub returns-clause-many : goal.returns-clause-many
returns-clause-many c = too_many_refused

pub returns-clause-sizes : goal.returns-clause-sizes
returns-clause-sizes c = sizes_first

pub returns-clause-reading : goal.returns-clause-reading
returns-clause-reading c = two_before

pub returns-clause-check : goal.returns-clause-check
returns-clause-check c = check_names
