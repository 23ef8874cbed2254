use Rattle.index_core.proofs.Words.{◌≡◌, arith, err_from_is_err_and, refl}
use Rattle.archives.specs.Packing.{form_of}
use Rattle.archives.specs.Walking.{Judged}
use Rattle.archives.proofs.PackingLemmas.{form_lawful}
use Rattle.index_core.specs.Verifying.{verification}
use Rattle.index_core.specs.declared.verified.Verified.{Verified}
use Rattle.index_core.proofs.ComingLemmas.{ComesRecord-map, ends_behind}
use Rattle.index_core.proofs.VerdictLemmas.{one_judged}
use Rattle.index_core.proofs.ReportLemmas.{reporting_more, reporting_end, reporting_start}
use Rattle.index_core.proofs.ReportLemmas.{reporting_stopped, reporting_fault}
use Rattle.index_core.proofs.verifying.verify.Goals as goal

pub loop-record-init : goal.loop-record-init
loop-record-init g c =
    let s = g.A.Archive.state c.args.archive.now in
    let none : Verified = record { records = 0; differing = 0 } in
    let start = reporting_start (form_of s.packing) (form_lawful s.packing) verification s.ahead
    (g.O.Output.written c.args.out.now) s.offset none c.requires.start refl in
    grind arith

pub returns-in-Ok-None-clause-verifies : goal.returns-in-Ok-None-clause-verifies
returns-in-Ok-None-clause-verifies g c =
    let i = c.loop-record.invariant in
    let packing = (g.A.Archive.state c.args.archive.now).packing in
    let e = rw (c.in-Ok-None.field-0-is, i.packing) at c.in-Ok-None.ensures.next in
    reporting_end (form_lawful packing) i.reporting _ e

pub returns-in_err-put_line-in-Ok-Some-clause-verifies : goal.returns-in_err-put_line-in-Ok-Some-clause-verifies
returns-in_err-put_line-in-Ok-Some-clause-verifies g c =
    let l = c.loop-record in
    let packing = (g.A.Archive.state c.args.archive.now).packing in
    let v = c.in-Ok-Some.verdict in
    let j : Judged = (c.in-Ok-Some.record, v) in
    let e = rw (c.in-Ok-Some.field-0-is, l.invariant.packing) at c.in-Ok-Some.ensures.next in
    let line = rw c.verdict_line.ensures at c.in_err-put_line-in-Ok-Some.ensures.line in
    let says = ComesRecord-map (form_of packing) _ j.0 _ (λ r. j ≡ verification.said r) _ _ (λ r same is. grind arith)
    e.comes in
    let owed = reporting_stopped (form_lawful packing) l.invariant.reporting j _ says e.stands _ line in
    grind (arith, err_from_is_err_and)

pub loop-record-preserved : goal.loop-record-preserved
loop-record-preserved g c =
    let l = c.loop-record in
    let i = l.invariant in
    let packing = (g.A.Archive.state c.args.archive.now).packing in
    let v = c.in-Ok-Some.verdict in
    let j : Judged = (c.in-Ok-Some.record, v) in
    let e = rw (c.in-Ok-Some.field-0-is, i.packing) at c.in-Ok-Some.ensures.next in
    let s = rw c.in-Ok-Some.field-0-is at c.in-Ok-Some.ensures.stands in
    let line = rw c.verdict_line.ensures at c.in_ok-put_line-in-Ok-Some.ensures.line in
    let says = ComesRecord-map (form_of packing) _ j.0 _ (λ r. j ≡ verification.said r) _ _ (λ r same is. grind arith)
    e.comes in
    let more = reporting_more (form_lawful packing) i.reporting j _ says e.stands
    (one_judged i.reporting.items j l.records l.differing i.reporting.tally_is) line in
    let behind = ends_behind (form_of packing) _ c.in-Ok-Some.record (form_lawful packing) e.stands in
    let fits = e.stands.fits in
    grind arith

pub returns-in-Err-clause-verifies : goal.returns-in-Err-clause-verifies
returns-in-Err-clause-verifies g c =
    let i = c.loop-record.invariant in
    let packing = (g.A.Archive.state c.args.archive.now).packing in
    let e = rw i.packing at c.in-Err.ensures.next in
    reporting_fault (form_lawful packing) i.reporting c.in-Err.damage c.put_fault.result _ _ _ _ e.comes e.follows
    c.put_fault.ensures

pub loop-record-smaller : goal.loop-record-smaller
loop-record-smaller g c =
    let packing = (g.A.Archive.state c.args.archive.now).packing in
    let e = rw (c.in-Ok-Some.field-0-is, c.loop-record.invariant.packing) at c.in-Ok-Some.ensures.next in
    let s = rw c.in-Ok-Some.field-0-is at c.in-Ok-Some.ensures.stands in
    let behind = ends_behind (form_of packing) _ c.in-Ok-Some.record (form_lawful packing) e.stands in
    let fits = e.stands.fits in
    rw (c.recycle.ensures, s.1) (omega arith)
