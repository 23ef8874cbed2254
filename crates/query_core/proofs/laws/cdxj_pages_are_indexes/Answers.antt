use Rattle.query_core.proofs.PageIndexes.{cdxj_page_index}
use Rattle.query_core.proofs.laws.cdxj_pages_are_indexes.Goals as goal

pub returns : goal.returns
returns c = cdxj_page_index
