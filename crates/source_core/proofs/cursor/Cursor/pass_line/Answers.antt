use Rattle.source_core.proofs.Words.{CursorState, ap}
use Rattle.source_core.proofs.WindowLemmas.{held_behind, passed, passed_line}
use Rattle.source_core.proofs.cursor.Cursor.pass_line.Goals as goal

pub returns-clause-stands : goal.returns-clause-stands
returns-clause-stands g c =
    let inside = c.self.inside in
    let line = rw (← c.self.view_is) at c.requires.line in
    rw (held_behind inside.window inside.at c.args.size line.inside)
    (passed _ _ _ c.args.size (rw (← c.self.view_is) at c.requires.stands) line)

pub returns-clause-given : goal.returns-clause-given
returns-clause-given g c = λ t e.
    rw (ap (λ (s : CursorState). s.at) c.self.view_is)
    (passed_line _ _ c.args.self.now c.args.size c.requires.stands c.requires.line t e)
