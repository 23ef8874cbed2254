use Rattle.std.proofs.Common.{◌∙◌, sym}
use Rattle.std.specs.Io.KnownBytes.{prepend_known}
use Rattle.gzip_members.specs.Left.{left_of}
use Rattle.gzip_members.proofs.EndLemmas.{no-text}
use Rattle.gzip_members.proofs.RestLemmas.{at-end, given-ahead, passed-text}
use Rattle.gzip_members.proofs.members.Members.pass_text.Goals as goal

pub returns-then-has_text-clause-passes : goal.returns-then-has_text-clause-passes
returns-then-has_text-clause-passes g c =
    let b = c.fill.new.self.body in
    passed-text c.has_text-has_text.result (left_of c.args.self.now) (left_of c.fill.new.self) _ b.window.text b.window.given c.if-has_text.true
    c.fill.ensures.left c.has_text-has_text.ensures
    (given-ahead b c.pass.new.self c.fill.new.self.source.passed _ _ c.pass.ensures.left)

pub returns-else-has_text-clause-none : goal.returns-else-has_text-clause-none
returns-else-has_text-clause-none g c = λ none text behind e.
    let b = c.fill.new.self.body in let source = c.fill.new.self.source in
    no-text b source.passed (prepend_known source.ahead (g.I.Input.remaining source.input)) text behind c.in_ok-fill.ensures.stops
    (at-end _ _ (sym c.has_text-has_text.ensures ∙ c.if-has_text.false)) e
