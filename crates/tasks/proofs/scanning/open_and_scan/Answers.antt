use Rattle.std.proofs.Common.{◌∙◌, ap, inl, map}
use Rattle.archives.specs.State.{told_of}
use Rattle.tasks.specs.Scanning.{archive_names}
use Rattle.tasks.proofs.NamedLemmas.{all_unread, opened_told}
use Rattle.tasks.proofs.scanning.open_and_scan.Goals as goal

pub scan_opened-requires : goal.scan_opened-requires
scan_opened-requires g c =
    rw c.deref_mut.ensures.value (all_unread g.F.Archive.Archive.state (g.F.Opener.tells_archive c.args.files.now) _
    c.in-Ok.archives.items c.in-Ok.ensures.opened)

pub returns-in-Ok-clause-scans : goal.returns-in-Ok-clause-scans
returns-in-Ok-clause-scans g c =
    let named = ap archive_names c.deref_mut.ensures.value ∙ c.in-Ok.ensures.named in
    let left = ap (map (λ archive. told_of (g.F.Archive.Archive.state archive.archive))) c.deref_mut.ensures.value in
    let told = opened_told g.F.Archive.Archive.state (g.F.Opener.tells_archive c.args.files.now) _
    c.in-Ok.archives.items c.in-Ok.ensures.opened in
    inl (_, told, rw (named, left) at c.scan_opened.ensures.scans)
