use Rattle.query_core.proofs.Words.{arith, err_from_is_err_and, length-map}
use Rattle.scan_core.proofs.ScanLemmas.{scanned_part, scanned_whole}
use Rattle.scan_core.specs.Scanning.{IsScanFault, LeavesUnread}
use Rattle.scan_core.proofs.scanning.scan.Goals as goal

pub returns-clause-scanned : goal.returns-clause-scanned
returns-clause-scanned g c written =
    scanned_whole (grind (arith, length-map)) (rw (← c.deref.ensures.value) at c.in_ok-indexes.ensures.indexes) _
    c.in_ok-write_pages.ensures.pages

pub returns-in_err-write_pages-clause-scanned : goal.returns-in_err-write_pages-clause-scanned
returns-in_err-write_pages-clause-scanned g c =
    let r = c.from_residual-in_err-write_pages in
    let p = err_from_is_err_and r.result r.ensures.1 in
    rw (p.1, p.2) (λ late. scanned_part {query = c.in_ok-query.query} (grind (arith, length-map))
    (rw (← c.deref.ensures.value) at c.in_ok-indexes.ensures.indexes) _ c.in_err-write_pages.ensures.pages)

pub returns-in_err-write_pages-clause-fault : goal.returns-in_err-write_pages-clause-fault
unfolding IsScanFault
returns-in_err-write_pages-clause-fault g c = grind arith

pub returns-in_err-write_pages-clause-unwritten : goal.returns-in_err-write_pages-clause-unwritten
returns-in_err-write_pages-clause-unwritten g c = grind arith

pub returns-in_err-write_pages-clause-unread : goal.returns-in_err-write_pages-clause-unread
unfolding LeavesUnread
returns-in_err-write_pages-clause-unread g c = grind arith

pub returns-in_err-query : goal.returns-in_err-query
unfolding IsScanFault LeavesUnread
returns-in_err-query g c = grind (arith, err_from_is_err_and)

pub returns-in_err-indexes : goal.returns-in_err-indexes
unfolding IsScanFault
returns-in_err-indexes g c = grind (arith, length-map, err_from_is_err_and)
