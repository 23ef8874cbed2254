use Rattle.index_core.proofs.Words.{arith, err_from_is_err_and}
use Rattle.index_core.proofs.SoundLemmas.{among_last, sound_under}
use Rattle.index_core.proofs.indexer.Indexer.add.Goals as goal

pub invariant_of-self-in_err-add_captures : goal.invariant_of-self-in_err-add_captures
invariant_of-self-in_err-add_captures g c =
    c.add_captures.ensures.sound c.add.new.self (grind (arith, among_last)) (grind (arith, sound_under))

pub invariant_of-self-2 : goal.invariant_of-self-2
invariant_of-self-2 g c =
    c.add_captures.ensures.sound c.add.new.self (grind (arith, among_last)) (grind (arith, sound_under))

-- what is held is seen before and after
pub returns-in_err-add_captures-clause-adds : goal.returns-in_err-add_captures-clause-adds
returns-in_err-add_captures-clause-adds g c =
    rw (← c.self.view_is) (grind (arith, err_from_is_err_and))

pub returns-clause-adds : goal.returns-clause-adds
returns-clause-adds g c = rw (← c.self.view_is) (grind arith)
