use Rattle.archives.proofs.Words.{HEAD_LIMIT, err_from_is_err_and, record-whole, arith, ◌∙◌}
use Rattle.warc_core.proofs.WalkLemmas.{record-end}
use Rattle.archives.proofs.PlainLemmas.{plain_comes_end, plain_found, plain_stopped}
use Rattle.archives.proofs.PlainLemmas.{plain_unclosed, some_of}
use Rattle.archives.proofs.walk.next_record.Goals as goal

pub returns-in_err-next-clause-next : goal.returns-in_err-next-clause-next
returns-in_err-next-clause-next g c =
    let n = c.in_err-next.ensures.between c.requires in
    let p = err_from_is_err_and c.from_residual.result c.from_residual.ensures.1 in
    rw (p.1, p.2) (plain_stopped HEAD_LIMIT _ c.in_err-next.field-0.0 _ _ n.state.at n.bytes)

pub returns-in_err-finish-in-Some-clause-next : goal.returns-in_err-finish-in-Some-clause-next
returns-in_err-finish-in-Some-clause-next g c =
    let n = rw c.in-Some.is at (c.in_ok-next.ensures.between c.requires) in
    let e = rw n.state.phase_is at c.in_err-finish-in-Some.ensures.open in
    let r = c.from_residual-in_err-finish-in-Some in
    let p = err_from_is_err_and r.result r.ensures.1 in
    let at = e.state.at ∙ n.state.offset_is ∙ n.begins.start_is in
    rw (p.1, p.2) (plain_unclosed HEAD_LIMIT _ c.in_err-finish-in-Some.field-0.0 c.in-Some.head _ _ _ at
    n.bytes e.bytes)

pub returns-in-None-clause-next : goal.returns-in-None-clause-next
returns-in-None-clause-next g c = grind (arith, record-end, plain_comes_end)

pub returns-in_ok-finish-in-Some-clause-next : goal.returns-in_ok-finish-in-Some-clause-next
returns-in_ok-finish-in-Some-clause-next g c =
    let n = rw c.in-Some.is at (c.in_ok-next.ensures.between c.requires) in
    let e = rw n.state.phase_is at c.in_ok-finish-in-Some.ensures.open in
    let h = c.in-Some.head in
    let r = record-whole HEAD_LIMIT _ _ _ _ h n.bytes e.bytes in
    rw c.placed.ensures (plain_found HEAD_LIMIT _ h _ _ n.begins r (some_of _ (λ bytes. tt)))
