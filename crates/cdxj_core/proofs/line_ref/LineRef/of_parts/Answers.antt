use Rattle.std.proofs.Common.{arith}
use Rattle.std.proofs.Math.Seq.{take-length}
use Rattle.cdxj_core.specs.declared.limit.TheConstants.{LINE_LIMIT}
use Rattle.cdxj_core.proofs.KeptLemmas.{placed_kept}
use Rattle.cdxj_core.proofs.line_ref.LineRef.of_parts.Goals as goal

pub invariant_of-result : goal.invariant_of-result
invariant_of-result c =
    placed_kept LINE_LIMIT c.args.text.now c.args.pair c.args.texts c.utf8.text c.requires.printable
    c.requires.short c.requires.pair c.requires.texts

pub returns : goal.returns
returns c = grind (arith, take-length, invariant_of-result)
