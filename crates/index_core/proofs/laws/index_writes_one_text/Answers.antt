use Rattle.index_core.proofs.OneAddLemmas.{adds_one_list, adds_first, writes_one_index, writes_index_front}
use Rattle.index_core.proofs.laws.index_writes_one_text.Goals as goal

pub returns : goal.returns
returns c = record {
  adds = adds_one_list;
  adds_first = adds_first;
  writes = writes_one_index;
  writes_front = writes_index_front;
}
