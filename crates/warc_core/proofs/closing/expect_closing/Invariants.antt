use Rattle.warc_core.proofs.Words.{◌≡◌, drop, prepend_known, closing}
use Rattle.warc_core.proofs.ReadingLemmas.{GoesOn}
use Rattle.warc_core.specs.Record.{after_text}
use Rattle.warc_core.proofs.closing.expect_closing.Given as goal

abbrev pub invariant-loop-expected : goal.invariant-loop-expected
invariant-loop-expected g l = record {
  same : GoesOn (after_text closing) (after_text (drop l.expected-index closing))
      (prepend_known l.fn.buffer (g.I.Input.remaining l.fn.input))
      (prepend_known l.buffer (g.I.Input.remaining l.input));
  count : g.I.Input.failures l.input ≡ g.I.Input.failures l.fn.input;
}
