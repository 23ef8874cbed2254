use Rattle.index_core.proofs.Words.{◌≡◌, ◌++◌, ◌≤◌, ◌-◌, ◌^◌, List, ℕ, length, EntryValue, is_among}
use Rattle.std.proofs.Common.{true}
use Rattle.cdxj_core.specs.declared.limit.TheConstants.{LINE_LIMIT}
use Rattle.capture_core.specs.Types.{includes}
use Rattle.capture_core.specs.CaptureAnswer.{usual_limits}
use Rattle.archives.specs.Packing.{form_of}
use Rattle.index_core.specs.Adding.{AreByHeads}
use Rattle.index_core.specs.Indexing.{AreSound, StandBefore}
use Rattle.index_core.proofs.AddingLemmas.{AddedSoFar}
use Rattle.index_core.proofs.captures.add_captures.Given as goal

abbrev pub invariant-loop-captures : goal.invariant-loop-captures
invariant-loop-captures g l = record {
  held : l.held ≡ length l.fn.captures.items;
  readable : (g.A.Archive.state l.archive).is_open ≡ true;
  packing : (g.A.Archive.state l.archive).packing ≡ (g.A.Archive.state l.fn.archive).packing;
  within : (g.A.Archive.state l.archive).offset ≤ 2 ^ 63 - 1;
  gains : (gained : List EntryValue) × (l.captures.items ≡ l.fn.captures.items ++ gained)
      × AddedSoFar (includes l.types) usual_limits (form_of (g.A.Archive.state l.fn.archive).packing) l.name
      (g.A.Archive.state l.fn.archive).ahead (g.A.Archive.state l.archive).ahead (g.A.Archive.state l.archive).offset
      gained × AreByHeads (includes l.types) usual_limits (form_of (g.A.Archive.state l.fn.archive).packing) l.name
      (g.A.Archive.state l.archive).offset gained;
  before : StandBefore l.name (g.A.Archive.state l.archive).offset l.captures.items;
  sound : (names : List (List ℕ)) → is_among names l.name ≡ true → AreSound LINE_LIMIT names l.fn.captures.items
      → AreSound LINE_LIMIT names l.captures.items;
  reads : (g.A.Archive.state l.archive).failures ≡ (g.A.Archive.state l.fn.archive).failures;
}

abbrev pub decreases-loop-captures : goal.decreases-loop-captures
decreases-loop-captures g l = 2 ^ 63 - (g.A.Archive.state l.archive).offset
