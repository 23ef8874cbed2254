use Rattle.merge_core.proofs.Words.{◌∷◌, ◌≡◌, arith, drop, lines}
use Rattle.merge_core.proofs.InputLemmas.{first_long}
use Rattle.merge_core.proofs.line_buffers.LineBuffers.next_line.Goals as goal

pub returns-in-Err-clause-fault : goal.returns-in-Err-clause-fault
returns-in-Err-clause-fault g c = λ t e.
    let line : lines (drop c.args.cursor.now.at t) ≡ c.in-Some.bytes.now ∷ lines (drop c.pass_line.new.self.at t) =
    grind arith in
    grind arith

pub returns-in-Err-line_of-clause-fault : goal.returns-in-Err-line_of-clause-fault
returns-in-Err-line_of-clause-fault g c = λ t e.
    let line : lines (drop c.args.cursor.now.at t) ≡ c.next.new.line.items ∷ lines (drop c.next.new.self.at t) =
    grind arith in
    grind arith

pub returns-in-Err-Long : goal.returns-in-Err-Long
returns-in-Err-Long g c = grind (arith, first_long)
