use Rattle.index_core.proofs.FormLemmas.{length_agrees, offset_agrees, captures_are_fetched}
use Rattle.index_core.proofs.laws.both_forms_of_get_agree.Goals as goal

pub returns : goal.returns
returns c = record { length = length_agrees; offset = offset_agrees; captures = captures_are_fetched }
