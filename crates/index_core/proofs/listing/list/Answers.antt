use Rattle.index_core.proofs.Words.{[], ◌+◌, ◌∷◌, ◌∙◌, ◌≡◌, arith, err_from_is_err_and, length-append, refl, sym}
use Rattle.archives.specs.Packing.{form_of}
use Rattle.archives.proofs.PackingLemmas.{form_lawful}
use Rattle.index_core.specs.Listing.{listing}
use Rattle.index_core.proofs.ComingLemmas.{ComesRecord-map, ends_behind}
use Rattle.index_core.proofs.ReportLemmas.{reporting_more, reporting_end, reporting_start}
use Rattle.index_core.proofs.ReportLemmas.{reporting_stopped, reporting_fault}
use Rattle.index_core.proofs.listing.list.Goals as goal

pub loop-record-init : goal.loop-record-init
loop-record-init g c =
    let s = g.A.Archive.state c.args.archive.now in
    let start = reporting_start (form_of s.packing) (form_lawful s.packing) listing s.ahead
    (g.O.Output.written c.args.out.now) s.offset 0 c.requires.start refl in
    grind arith

pub returns-in-Ok-None-clause-lists : goal.returns-in-Ok-None-clause-lists
returns-in-Ok-None-clause-lists g c =
    let i = c.loop-record.invariant in
    let packing = (g.A.Archive.state c.args.archive.now).packing in
    let e = rw (c.in-Ok-None.field-0-is, i.packing) at c.in-Ok-None.ensures.next in
    reporting_end (form_lawful packing) i.reporting _ e

pub returns-in_err-put_line-in-Ok-Some-clause-lists : goal.returns-in_err-put_line-in-Ok-Some-clause-lists
returns-in_err-put_line-in-Ok-Some-clause-lists g c =
    let i = c.loop-record.invariant in
    let packing = (g.A.Archive.state c.args.archive.now).packing in
    let p = c.in-Ok-Some.record in
    let e = rw (c.in-Ok-Some.field-0-is, i.packing) at c.in-Ok-Some.ensures.next in
    let says = ComesRecord-map (form_of packing) _ p _ (λ r. p ≡ listing.said r) _ _ (λ r same t. sym same) e.comes in
    let line = rw c.record_line.ensures at c.in_err-put_line-in-Ok-Some.ensures.line in
    let owed = reporting_stopped (form_lawful packing) i.reporting p _ says e.stands _ line in
    grind (arith, err_from_is_err_and)

pub loop-record-preserved : goal.loop-record-preserved
loop-record-preserved g c =
    let i = c.loop-record.invariant in
    let packing = (g.A.Archive.state c.args.archive.now).packing in
    let p = c.in-Ok-Some.record in
    let e = rw (c.in-Ok-Some.field-0-is, i.packing) at c.in-Ok-Some.ensures.next in
    let s = rw c.in-Ok-Some.field-0-is at c.in-Ok-Some.ensures.stands in
    let says = ComesRecord-map (form_of packing) _ p _ (λ r. p ≡ listing.said r) _ _ (λ r same t. sym same) e.comes in
    let line = rw c.record_line.ensures at c.in_ok-put_line-in-Ok-Some.ensures.line in
    let more = reporting_more (form_lawful packing) i.reporting p _ says e.stands {y = c.loop-record.count + 1}
    (omega (arith, i.reporting.tally_is, length-append i.reporting.items (p ∷ []))) line in
    let behind = ends_behind (form_of packing) _ p (form_lawful packing) e.stands in
    let fits = e.stands.fits in
    rw (c.recycle.ensures, s.1) (record {
      readable = s.0;
      packing = c.in-Ok-Some.ensures.packing ∙ i.packing;
      within = fits;
      fewer = omega arith;
      reporting = more;
      reads = grind arith;
      writes = grind arith;
    })

pub returns-in-Err-clause-lists : goal.returns-in-Err-clause-lists
returns-in-Err-clause-lists g c =
    let i = c.loop-record.invariant in
    let packing = (g.A.Archive.state c.args.archive.now).packing in
    let e = rw i.packing at c.in-Err.ensures.next in
    reporting_fault (form_lawful packing) i.reporting c.in-Err.damage c.put_fault.result _ _ _ _ e.comes e.follows
    c.put_fault.ensures

pub loop-record-smaller : goal.loop-record-smaller
loop-record-smaller g c =
    let packing = (g.A.Archive.state c.args.archive.now).packing in
    let p = c.in-Ok-Some.record in
    let e = rw (c.in-Ok-Some.field-0-is, c.loop-record.invariant.packing) at c.in-Ok-Some.ensures.next in
    let s = rw c.in-Ok-Some.field-0-is at c.in-Ok-Some.ensures.stands in
    let behind = ends_behind (form_of packing) _ p (form_lawful packing) e.stands in
    let fits = e.stands.fits in
    rw (c.recycle.ensures, s.1) (omega arith)
