use Rattle.query_core.proofs.Words.{◌∙◌, arith, refl, sym, true≢false}
use Rattle.query_core.proofs.CheckLemmas.{checked_falls, checked_fault, checked_more, checked_none, checked_whole}
use Rattle.query_core.proofs.checking.check.Goals as goal

pub returns-in-Err-clause-checked : goal.returns-in-Err-clause-checked
returns-in-Err-clause-checked g c =
    let inv = c.lines.invariant in
    rw c.fault_of_index.ensures (checked_fault _ inv.checked c.in-Err.fault c.in-Err.ensures.names
    (λ t e. c.in-Err.ensures.fault t (inv.text ∙ e)))

pub returns-then-falls_after-clause-checked : goal.returns-then-falls_after-clause-checked
returns-then-falls_after-clause-checked g c =
    let inv = c.lines.invariant in
    let line = rw (c.in-Some.is, inv.text) at c.in-Ok.ensures.line in
    rw inv.offset (checked_falls _ inv.checked _ _ line
    (rw c.deref.ensures at (c.falls_after.ensures.0 c.if-falls_after.true)))

pub lines-init : goal.lines-init
lines-init g c =
    let new = c.in_ok-cursor.ensures in
    let start = new.start.there in
    record {
      text = refl;
      extent = refl;
      failures = refl;
      stands = new.stands _ _ (omega arith);
      gave = omega (arith, new.ahead);
      inside = omega (arith, new.ahead);
      offset = sym start;
      checked = rw (start, new.start.none) (checked_none (g.S.Source.text c.args.source.now));
    }

pub lines-preserved : goal.lines-preserved
lines-preserved g c =
    let inv = c.lines.invariant in
    let ok = c.in-Ok.ensures in
    let line = rw (c.in-Some.is, inv.text) at ok.line in
    let falls = rw c.deref.ensures at c.falls_after.ensures in
    record {
      text = cc;
      extent = cc;
      failures = cc;
      stands = ok.stands;
      gave = grind arith;
      inside = grind arith;
      offset = c.at-offset.ensures;
      checked = rw ((rw c.in-Some.is at ok.moves).0, c.replace.ensures.after) (checked_more _ inv.checked _ _ line
          (λ f. true≢false (sym (falls.1 f) ∙ c.if-falls_after.false)));
    }

pub returns-in_default-clause-checked : goal.returns-in_default-clause-checked
returns-in_default-clause-checked g c =
    let inv = c.lines.invariant in
    let line = rw (c.in_default.is, inv.text) at c.in-Ok.ensures.line in
    let moves = rw c.in_default.is at c.in-Ok.ensures.moves in
    checked_whole _ inv.checked _ _ _ line (moves.1 ∙ inv.extent) (grind arith)
