use Rattle.index_core.specs.Verifying.{verification}
use Rattle.index_core.proofs.OneTextLemmas.{is_report}
use Rattle.index_core.proofs.laws.verify_writes_one_text.Goals as goal

pub returns : goal.returns
returns c = is_report verification
