use Rattle.source_core.proofs.Words.{◌+◌, ◌-◌, ◌/◌, ◌∙◌, ◌≡◌, arith, refl, sym}
use Rattle.source_core.proofs.Seeks.{digits_below}
use Rattle.source_core.proofs.HalvingSteps.{halves_down, halves_hidden, halves_none, halves_up}
use Rattle.source_core.proofs.seeking.halve.Goals as goal

pub overflow_add-probes : goal.overflow_add-probes
overflow_add-probes g c = grind (arith, digits_below (g.S.Source.extent c.args.source.now))

pub returns-in_err-found : goal.returns-in_err-found
returns-in_err-found g c = grind arith

pub returns-in-Some-clause-halved : goal.returns-in-Some-clause-halved
returns-in-Some-clause-halved g c =
    let ok = c.in_ok-found.ensures in let is = c.in-Some.is in let among = rw is at ok.among in
    rw (ok.source.0.0.0, ok.source.0.0.1) (halves_down _ _ _ _ _ c.requires.halved c.requires.some _ refl _ refl _
    (omega (arith, among.1)) (λ t e. ((rw is at (ok.line t e)).0, sym (rw is at (ok.stops t e)) ∙ c.if-probed.true)))

pub returns-in-Some-2-clause-halved : goal.returns-in-Some-2-clause-halved
returns-in-Some-2-clause-halved g c =
    let ok = c.in_ok-found.ensures in let is = c.in-Some-2.is in let among = rw is at ok.among in
    let guarded : c.in-Some.probed.stops ≡ c.in-Some-2.probed.stops = cc in
    rw (ok.source.0.0.0, ok.source.0.0.1) (halves_up _ _ _ _ _ c.requires.halved c.requires.some _ refl _ refl _
    among.0 (omega (arith, among.1, c.min.ensures))
    (λ t e. (
      (rw is at (ok.line t e)).0,
      (rw is at (ok.line t e)).1,
      sym (rw is at (ok.stops t e)) ∙ sym guarded ∙ c.if-probed.false,
    )))

pub returns-in-None-clause-halved : goal.returns-in-None-clause-halved
returns-in-None-clause-halved g c =
    let ok = c.in_ok-found.ensures in let is = c.in-None.is in
    rw (ok.source.0.0.0, ok.source.0.0.1) (halves_hidden _ _ _ _ _ c.requires.halved c.requires.some _ refl _ refl _
    (rw is at ok.later) (omega (arith, c.min.ensures)) (omega (arith, c.min.ensures)) (λ t e. rw is at (ok.none t e)))

pub returns-in-None-2-clause-halved : goal.returns-in-None-2-clause-halved
returns-in-None-2-clause-halved g c =
    let ok = c.in_ok-found.ensures in let is = c.in-None-2.is in let span = c.args.span in
    let all : span.low + (span.high - span.low) / 2 + c.min.result ≡ span.high = omega (arith, c.min.ensures) in
    rw (ok.source.0.0.0, ok.source.0.0.1) (halves_none _ _ _ _ _ c.requires.halved c.requires.some _ refl _ refl
    (rw is at ok.later) (λ t e. rw (is, all) at (ok.none t e)))
