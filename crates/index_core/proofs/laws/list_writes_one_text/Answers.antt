use Rattle.index_core.specs.Listing.{listing}
use Rattle.index_core.proofs.OneTextLemmas.{is_report}
use Rattle.index_core.proofs.laws.list_writes_one_text.Goals as goal

pub returns : goal.returns
returns c = is_report listing
