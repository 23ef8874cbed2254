use Rattle.std.proofs.Common.{◌≡◌}
use Rattle.tasks.specs.Fetching.{WritesRecord}
use Rattle.tasks.specs.Opening.{IsUnopened}
use Rattle.tasks.proofs.OpeningLemmas.{opened_unread, opens_first}
use Rattle.tasks.proofs.fetching.fetch.Goals as goal

pub fetch_opened-requires : goal.fetch_opened-requires
fetch_opened-requires g c = opened_unread c.open_archive.result g.F.Archive.Archive.state
    (g.F.Opener.tells_archive c.args.files.now c.args.name.now)
    (IsUnopened (g.F.Opener.archive_failed c.args.files.now c.args.name.now)) c.open_archive.ensures

pub returns-clause-record : goal.returns-clause-record
returns-clause-record g c =
    let written = g.O.Output.written in
    let fetched = c.fetch_opened in
    opens_first c.open_archive.result g.F.Archive.Archive.state _
    (IsUnopened (g.F.Opener.archive_failed c.args.files.now c.args.name.now))
    (λ told. WritesRecord c.args.length c.args.offset told (written c.args.out.now) (written fetched.new.out)
    (fetched.new.out ≡ c.args.out.now) fetched.result)
    _ (λ same. same) c.open_archive.ensures fetched.ensures.record
