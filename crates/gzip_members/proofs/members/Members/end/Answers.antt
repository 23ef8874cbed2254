use Rattle.std.proofs.Common.{◌∙◌, [], Some, Err, subst, sym}
use Rattle.std.specs.Io.KnownBytes.{prepend_known}
use Rattle.gzip_members.specs.Bodies.{fault_of}
use Rattle.gzip_members.specs.Left.{PassesRest, left_of}
use Rattle.gzip_members.proofs.OverLemmas.{ends-at, none-far, refused-for, same-fault}
use Rattle.gzip_members.proofs.members.Members.end.Goals as goal

pub returns-in-None-fault-clause-whole : goal.returns-in-None-fault-clause-whole
returns-in-None-fault-clause-whole g c = λ text behind e.
    let m = c.pass_rest.new.self in
    let known = prepend_known m.source.ahead (g.I.Input.remaining m.source.input) in
    let p : PassesRest (Some c.in-Some.had) text behind (left_of m) =
    subst (λ r. PassesRest r text behind (left_of m)) c.in-Some.is (c.in_ok-had.ensures.whole text behind e) in
    let q = ends-at m.body m.source.passed known [] behind (c.in_ok-had.ensures.end c.in-Some.had cc) p.0 in
    (p.1, q.1)

pub returns-in-None-fault-clause-refused : goal.returns-in-None-fault-clause-refused
returns-in-None-fault-clause-refused g c = λ fault e.
    let m = c.pass_rest.new.self in
    let known = prepend_known m.source.ahead (g.I.Input.remaining m.source.input) in
    let f = refused-for m.body m.source.passed known fault (c.in_ok-had.ensures.end c.in-Some.had cc) (c.in_ok-had.ensures.fault fault e) in
    absurd cc

pub returns-then-self-clause-whole : goal.returns-then-self-clause-whole
returns-then-self-clause-whole g c = λ text behind e.
    let m = c.pass_rest.new.self in
    let known = prepend_known m.source.ahead (g.I.Input.remaining m.source.input) in
    let p : PassesRest (Some c.in-Some.had) text behind (left_of m) =
    subst (λ r. PassesRest r text behind (left_of m)) c.in-Some.is (c.in_ok-had.ensures.whole text behind e) in
    let q = ends-at m.body m.source.passed known [] behind (c.in_ok-had.ensures.end c.in-Some.had cc) p.0 in
    absurd cc

pub returns-then-self-clause-refused : goal.returns-then-self-clause-refused
returns-then-self-clause-refused g c = λ fault e.
    let m = c.pass_rest.new.self in
    absurd (none-far m.body m.source.passed m.source.ahead _ (Err fault) (m.far c.if-self.true) (c.in_ok-had.ensures.fault fault e))

pub returns-else-self-clause-whole : goal.returns-else-self-clause-whole
returns-else-self-clause-whole g c = λ text behind e.
    let m = c.pass_rest.new.self in
    let known = prepend_known m.source.ahead (g.I.Input.remaining m.source.input) in
    let p : PassesRest (Some c.in-Some.had) text behind (left_of m) =
    subst (λ r. PassesRest r text behind (left_of m)) c.in-Some.is (c.in_ok-had.ensures.whole text behind e) in
    let q = ends-at m.body m.source.passed known [] behind (c.in_ok-had.ensures.end c.in-Some.had cc) p.0 in
    absurd cc

pub returns-else-self-clause-refused : goal.returns-else-self-clause-refused
returns-else-self-clause-refused g c = λ fault e.
    let m = c.pass_rest.new.self in
    let known = prepend_known m.source.ahead (g.I.Input.remaining m.source.input) in
    let f = refused-for m.body m.source.passed known fault (c.in_ok-had.ensures.end c.in-Some.had cc) (c.in_ok-had.ensures.fault fault e) in
    same-fault fault c.in-Some-fault.fault c.from.result (fault_of m.body.stage) f (sym c.fault.ensures ∙ c.in-Some-fault.is) c.from.ensures
