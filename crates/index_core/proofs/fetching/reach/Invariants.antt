use Rattle.index_core.proofs.Words.{◌≡◌, ◌<◌, ◌≤◌, ◌-◌, ◌^◌, IfSome, prepend_known, HEAD_LIMIT}
use Rattle.index_core.proofs.Words.{Between, IsInRecord}
use Rattle.warc_core.specs.ReaderView.{StandsAt}
use Rattle.index_core.specs.Copying.{WalkedTo}
use Rattle.index_core.proofs.fetching.reach.Given as goal

abbrev pub invariant-loop-end : goal.invariant-loop-end
invariant-loop-end g l = record {
  stands : StandsAt l.reader l.end Between;
  within : l.end ≤ 2 ^ 63 - 1;
  walked : WalkedTo HEAD_LIMIT l.end (prepend_known l.fn.reader.held (g.I.Input.remaining l.fn.input))
      (prepend_known l.reader.held (g.I.Input.remaining l.input));
  inside : l.offset < l.end
      → IfSome (prepend_known l.fn.reader.held (g.I.Input.remaining l.fn.input))
      (λ archive. IsInRecord HEAD_LIMIT archive l.offset);
  reads : g.I.Input.failures l.input ≡ g.I.Input.failures l.fn.input;
}

abbrev pub decreases-loop-end : goal.decreases-loop-end
decreases-loop-end g l = l.offset - l.end
