use Rattle.warc_head.proofs.FoldingLemmas.{fields_spelled}
use Rattle.warc_head.proofs.laws.fields_are_spelled.Goals as goal

pub returns : goal.returns
returns c = fields_spelled
