use Rattle.std.proofs.Common.{◌≡◌}
use Rattle.std.specs.Io.KnownBytes.{prepend_known}
use Rattle.gzip_members.proofs.EndLemmas.{no-text, nothing-given}
use Rattle.gzip_members.proofs.members.Members.read.Goals as goal

pub returns-clause-end : goal.returns-clause-end
returns-clause-end g c = λ none some text behind e.
    let zero : c.give.result ≡ 0 = cc in
    let old = c.fill.new.self.body in let new = c.give.new.self in
    let stop = nothing-given old.stage new.stage old.window new.window c.give.result zero c.give.ensures.stage c.give.ensures.text c.give.ensures.given
    (c.in_ok-fill.ensures.stops) (c.give.ensures.some some zero) in
    let source = c.fill.new.self.source in
    no-text new source.passed (prepend_known source.ahead (g.I.Input.remaining source.input)) text behind stop.0 stop.1 e
