use Rattle.cdxj_places.proofs.PairLemmas.{pair_longer}
use Rattle.cdxj_places.proofs.laws.longer_text_has_the_pair.Goals as goal

pub returns : goal.returns
returns c = pair_longer
