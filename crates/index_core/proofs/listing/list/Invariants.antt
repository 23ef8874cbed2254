use Rattle.index_core.proofs.Words.{◌≡◌, ◌≤◌, ◌-◌, ◌^◌}
use Rattle.std.proofs.Common.{true}
use Rattle.archives.specs.Packing.{form_of}
use Rattle.index_core.specs.Listing.{listing}
use Rattle.index_core.proofs.ReportLemmas.{Reporting}
use Rattle.index_core.proofs.listing.list.Given as goal

abbrev pub invariant-loop-record : goal.invariant-loop-record
invariant-loop-record g l = record {
  readable : (g.A.Archive.state l.archive).is_open ≡ true;
  packing : (g.A.Archive.state l.archive).packing ≡ (g.A.Archive.state l.fn.archive).packing;
  within : (g.A.Archive.state l.archive).offset ≤ 2 ^ 63 - 1;
  fewer : l.count ≤ (g.A.Archive.state l.archive).offset;
  reporting : Reporting (form_of (g.A.Archive.state l.fn.archive).packing) listing
      (g.A.Archive.state l.fn.archive).ahead (g.A.Archive.state l.archive).ahead (g.A.Archive.state l.archive).offset
      l.count (g.O.Output.written l.fn.out) (g.O.Output.written l.out);
  reads : (g.A.Archive.state l.archive).failures ≡ (g.A.Archive.state l.fn.archive).failures;
  writes : g.O.Output.failures l.out ≡ g.O.Output.failures l.fn.out;
}

abbrev pub decreases-loop-record : goal.decreases-loop-record
decreases-loop-record g l = 2 ^ 63 - (g.A.Archive.state l.archive).offset
