use Rattle.std.proofs.Common.{◌-◌, ◌≤◌, [], Result, length, take}
use Rattle.warc_core.specs.declared.fault.Fault.{Fault}
use Rattle.warc_core.specs.ReaderView.{ReaderState, state_of}
use Rattle.capture_core.specs.Capture.{BlockValue}
use Rattle.capture_core.specs.CaptureSteps.{HasFront, ReadsBlock}
use Rattle.capture_core.proofs.record_capture.read_block.Given as goal

abbrev pub invariant-steps : goal.invariant-steps
invariant-steps g l = record {
  within : l.filled ≤ length l.front.items;
  ready : HasFront l.head (take l.filled l.front.items) l.reader;
  rest : (r : Result BlockValue Fault) (new : ReaderState)
      → ReadsBlock l.head (take l.filled l.front.items)
      (state_of l.reader (g.I.Input.remaining l.input) (g.I.Input.failures l.input)) new r
      → ReadsBlock l.head []
      (state_of l.fn.reader (g.I.Input.remaining l.fn.input) (g.I.Input.failures l.fn.input)) new r;
}

abbrev pub decreases-steps : goal.decreases-steps
decreases-steps g l = l.whole - l.filled
