use Rattle.std.proofs.Common.{arith, ap}
use Rattle.tasks.specs.Opening.{IsUnopened}
use Rattle.tasks.specs.Reports.{WritesBelow, heading_among}
use Rattle.tasks.proofs.OpeningLemmas.{opened_unread, opens_first}
use Rattle.tasks.proofs.WriteCounts.{unopened_counts}
use Rattle.tasks.proofs.reports.fn.report_on.with_each.Goals as goal

pub report_on_opened-requires : goal.report_on_opened-requires
report_on_opened-requires g c = opened_unread c.open_archive.result g.F.Archive.Archive.state
    (g.F.Opener.tells_archive c.captures.files.now c.args.name.now)
    (IsUnopened (g.F.Opener.archive_failed c.captures.files.now c.args.name.now)) c.open_archive.ensures

pub returns : goal.returns
returns g c =
    let written = g.O.Output.written in
    record {
      report = opens_first c.open_archive.result g.F.Archive.Archive.state _
          (IsUnopened (g.F.Opener.archive_failed c.captures.files.now c.args.name.now))
          (λ told. WritesBelow (heading_among c.captures.among c.args.name.now) c.captures.report told
          c.report_on_opened.result (written c.args.out.now) (written c.report_on_opened.new.out))
          _ (ap written) c.open_archive.ensures c.report_on_opened.ensures.report;
      writes = grind (arith, unopened_counts);
    }
