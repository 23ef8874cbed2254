use Rattle.query_core.proofs.PageChains.{pages_one}
use Rattle.query_core.proofs.laws.pages_write_one_text.Goals as goal

pub returns : goal.returns
returns c = pages_one
