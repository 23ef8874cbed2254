use Rattle.std.proofs.Common.{arith}
use Rattle.tasks.specs.Indexing.{AddsArchive, archive_name, bytes_of_name}
use Rattle.tasks.specs.Opening.{IsUnopened}
use Rattle.tasks.proofs.OpeningLemmas.{opened_unread, opens_first}
use Rattle.tasks.proofs.WriteCounts.{unopened_counts}
use Rattle.tasks.proofs.indexing.fn.index_all.with_each.Goals as goal

pub add_opened-requires : goal.add_opened-requires
add_opened-requires g c = opened_unread c.open_archive-opened.result g.F.Archive.Archive.state
    (g.F.Opener.tells_archive c.captures.files.now c.args.name.now)
    (IsUnopened (g.F.Opener.archive_failed c.captures.files.now c.args.name.now)) c.open_archive-opened.ensures

pub returns : goal.returns
returns g c =
    let added = c.add_opened in
    let name = archive_name (bytes_of_name c.captures.input) c.args.name.now in
    record {
      adds = opens_first c.open_archive-opened.result g.F.Archive.Archive.state _
          (IsUnopened (g.F.Opener.archive_failed c.captures.files.now c.args.name.now))
          (λ told. AddsArchive name told c.args.indexer.now added.new.indexer added.result)
          _ (λ same. same) c.open_archive-opened.ensures
          (rw c.archive_name.ensures at added.ensures.adds);
      unwritten = grind (arith, unopened_counts);
    }
