-- What is known of a capture between its steps.
use Rattle.std.specs.Prelude.{◌≡◌, ℕ, ◌-◌, ◌≤◌, List, ◌++◌, length, Result, IfOk}
use Rattle.warc_core.specs.declared.fault.Fault.{Fault}
use Rattle.warc_core.specs.declared.phase.Phase.TheVariants.{Open}
use Rattle.warc_core.specs.HeadView.{HeadView, record_length}
use Rattle.warc_core.specs.Calls.{Fills}
use Rattle.warc_core.specs.ReaderView.{ReaderView, ReaderState, IfOpen, StandsAt, ahead}
use Rattle.capture_core.specs.declared.http_head.TheConstants.{HTTP_HEAD_LIMIT}
use Rattle.capture_core.specs.Capture.{BlockValue, IsFilled}
use Rattle.capture_core.specs.RecordReading.{ReadsRest, front_length}
use Rattle.capture_core.specs.CaptureAnswer.{GivesBehind, usual_limits}

-- Of the record's block the reader gave this much of the front.
pub record HasFront (h : HeadView) (front : List ℕ) (reader : ReaderView) : Type 0 where
  pub within : length front ≤ front_length HTTP_HEAD_LIMIT h
  pub stands : StandsAt reader h.start (Open (h.parts.block_length - length front) (record_length h))

-- A call filled the front behind its first bytes with the next bytes of an open record's block, or failed by what it
-- met.
abbrev pub FillsBehind : List ℕ → ReaderState → ReaderState → Result (Unit {0}) Fault → List ℕ → Type 0
FillsBehind first old new r front = (piece : List ℕ) × (front ≡ first ++ piece)
    × IfOpen old.reader.phase (λ left len. Fills left len old new r piece)

-- A call read the rest of a record, of whose block this much of the front was read, and answered what the block gives.
pub record ReadsBlock (h : HeadView) (front : List ℕ) (old new : ReaderState) (r : Result BlockValue Fault) : Type 0 where
  pub rest : ReadsRest (h.parts.block_length - length front) h old new r
  pub gives : GivesBehind usual_limits h front (ahead old) r
  pub filled : IfOk r IsFilled
