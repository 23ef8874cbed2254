use Rattle.index_core.proofs.Words.{arith}
use Rattle.index_core.proofs.IndexLemmas.{all_in_places, index_in_places}
use Rattle.index_core.proofs.indexer.Indexer.write.Goals as goal

pub returns-clause-index : goal.returns-clause-index
returns-clause-index g c = grind (arith, index_in_places)

pub returns-clause-all : goal.returns-clause-all
returns-clause-all g c = grind (arith, all_in_places)
