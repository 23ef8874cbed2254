use Rattle.warc_core.proofs.SpelledLemmas.{total}
use Rattle.warc_core.proofs.laws.records_or_damage.Goals as goal

pub returns : goal.returns
returns c = total
