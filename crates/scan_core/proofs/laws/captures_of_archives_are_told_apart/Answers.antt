use Rattle.scan_core.proofs.CaptureLemmas.{all_have_places, none_left_out}
use Rattle.scan_core.proofs.laws.captures_of_archives_are_told_apart.Goals as goal

pub returns-clause-places : goal.returns-clause-places
returns-clause-places c = all_have_places

pub returns-clause-each : goal.returns-clause-each
returns-clause-each c = none_left_out
