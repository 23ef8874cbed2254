use Rattle.archives.proofs.Words.{HEAD_LIMIT, ◌≡◌, arith, err_from_is_err_and, record-whole, subst, sym}
use Rattle.warc_core.proofs.WalkLemmas.{record-end}
use Rattle.capture_core.specs.Types.{includes}
use Rattle.capture_core.specs.CaptureAnswer.{usual_limits}
use Rattle.capture_core.specs.RecordReading.{IsCaptureFaultAt}
use Rattle.archives.proofs.CaptureLemmas.{capture_fault_at, capture_there, refused_there, stopped_there}
use Rattle.archives.proofs.PlainLemmas.{plain_comes, plain_comes_end, plain_follows, plain_stands}
use Rattle.archives.proofs.walk.next_capture.Goals as goal

pub returns-in_err-next-clause-takes : goal.returns-in_err-next-clause-takes
returns-in_err-next-clause-takes g c =
    let n = c.in_err-next.ensures.between c.requires.between in
    let p = err_from_is_err_and c.from_residual.result c.from_residual.ensures.1 in
    rw (p.1, p.2) (
      plain_follows HEAD_LIMIT _ _ (sym n.state.at),
      stopped_there (includes c.args.types) usual_limits HEAD_LIMIT c.args.name.now _ c.in_err-next.field-0.0 _ _
          n.state.at n.bytes,
    )

pub returns-in_err-captured-in-Some-clause-takes : goal.returns-in_err-captured-in-Some-clause-takes
returns-in_err-captured-in-Some-clause-takes g c =
    let n = rw c.in-Some.is at (c.in_ok-next.ensures.between c.requires.between) in
    let r = c.from_residual-in_err-captured-in-Some in
    let p = err_from_is_err_and r.result r.ensures.1 in
    let h = c.in-Some.head in
    let e = c.in_err-captured-in-Some.ensures in
    let fault = c.in_err-captured-in-Some.field-0.0 in
    let o = c.args.reader.now.offset in
    let at : h.start ≡ o = grind arith in
    let here : IsCaptureFaultAt o fault = subst (λ s. IsCaptureFaultAt s fault) at e.reads.fault in
    rw (p.1, p.2) (
      plain_follows HEAD_LIMIT o _ (sym (capture_fault_at o fault here)),
      refused_there (includes c.args.types) usual_limits HEAD_LIMIT c.args.name.now o h fault _ _ _ here n.bytes
          e.reads.reads.bytes e.capture,
    )

pub returns-in-None-clause-takes : goal.returns-in-None-clause-takes
returns-in-None-clause-takes g c = grind (arith, record-end, plain_comes_end)

pub returns-in_ok-captured-in-Some-clause-takes : goal.returns-in_ok-captured-in-Some-clause-takes
returns-in_ok-captured-in-Some-clause-takes g c =
    let n = rw c.in-Some.is at (c.in_ok-next.ensures.between c.requires.between) in
    let h = c.in-Some.head in
    let captured = c.in_ok-captured-in-Some.captured in
    let e = c.in_ok-captured-in-Some.ensures in
    let o = c.args.reader.now.offset in
    rw c.placed.ensures (record {
      comes = plain_comes HEAD_LIMIT o h _ _ _ (record-whole HEAD_LIMIT o _ _ _ h n.bytes e.reads.reads.bytes)
          (capture_there (includes c.args.types) usual_limits HEAD_LIMIT c.args.name.now o h captured _ _ _ n.bytes
          e.reads.reads.bytes e.capture);
      stands = plain_stands HEAD_LIMIT o h (grind arith);
      entry = e.entry;
      under = e.under;
    })
