use Rattle.scan_core.proofs.RowLemmas.{packed_selected_fetched, selected_fetched}
use Rattle.scan_core.proofs.laws.selected_records_are_fetched.Goals as goal

pub returns-clause-plain : goal.returns-clause-plain
returns-clause-plain c = selected_fetched c.both_forms_of_get_agree.ensures.captures

pub returns-clause-packed : goal.returns-clause-packed
returns-clause-packed c = packed_selected_fetched c.packed_captures_stand_in_members.ensures.fetched
