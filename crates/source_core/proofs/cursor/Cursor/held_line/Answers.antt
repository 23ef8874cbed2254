use Rattle.source_core.proofs.Words.{◌+◌, ◌≡◌, arith, length, length-take, take}
use Rattle.source_core.proofs.WindowLemmas.{printable_line}
use Rattle.source_core.proofs.cursor.Cursor.held_line.Goals as goal

pub returns-then-held-body-eq10-clause-line : goal.returns-then-held-body-eq10-clause-line
returns-then-held-body-eq10-clause-line c =
    let held = c.from-held.result.now in let body = c.printable_length-body.result in
    let line = printable_line held body c.printable_length-body.ensures c.if-body-held.true c.if-held-body-eq10.true in
    let size : length (take (body + 1) held) ≡ body + 1 = grind (arith, length-take) in
    let there : c.args.self.now.ahead ≡ held = grind arith in
    grind arith

pub returns-then-held-body-eq10-clause-printable : goal.returns-then-held-body-eq10-clause-printable
returns-then-held-body-eq10-clause-printable c = grind (arith, printable_line)
