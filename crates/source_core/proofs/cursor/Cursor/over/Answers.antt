use Rattle.source_core.proofs.Words.{arith, refl}
use Rattle.source_core.proofs.WindowLemmas.{held_stands}
use Rattle.source_core.proofs.cursor.Cursor.over.Goals as goal

pub returns-clause-stands : goal.returns-clause-stands
returns-clause-stands c = λ text extent holds inside. record {
  filled = held_stands _ _ c.args.window _ holds inside;
  begun = omega arith;
  rest = λ t e. refl;
}
