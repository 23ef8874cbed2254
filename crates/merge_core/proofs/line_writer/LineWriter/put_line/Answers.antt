use Rattle.merge_core.proofs.Words.{arith, grows_on, prefix_longer}
use Rattle.merge_core.proofs.MergeLemmas.{on_fault}
use Rattle.merge_core.proofs.line_writer.LineWriter.put_line.Goals as goal

pub returns-in_err-put-clause-text : goal.returns-in_err-put-clause-text
returns-in_err-put-clause-text g c = grind (arith, on_fault, prefix_longer)

pub returns-clause-grows : goal.returns-clause-grows
returns-clause-grows g c = grows_on _ (g.O.Output.written c.put.new.out) _ (grind arith) (grind arith)
