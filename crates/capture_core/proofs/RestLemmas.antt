-- The rest of a capture, from how it goes on.
use Rattle.std.proofs.Common.{◌≡◌, ℕ, ◌+◌, ◌-◌, ◌≤◌, ◌∙◌, List, [], Result, Ok, Err, length, take}
use Rattle.std.proofs.Common.{length-append, ap, refl, arith}
use Rattle.warc_core.specs.declared.fault.Cause.{Cause}
use Rattle.warc_core.specs.declared.fault.Fault.{Fault}
use Rattle.warc_core.specs.Answers.{CountsRead}
use Rattle.warc_core.specs.Cause.{StopsBlock, StopsRecord}
use Rattle.warc_core.specs.Reading.{Reads}
use Rattle.warc_core.specs.ReaderView.{FailedBy, ReaderState, IfOpen, ahead}
use Rattle.warc_core.specs.Record.{after_record}
use Rattle.warc_core.specs.Calls.{GivesBlock}
use Rattle.std.proofs.lemmas.List.{length-take-le}
use Rattle.warc_core.proofs.OpenLemmas.{found-of-record}
use Rattle.capture_core.specs.declared.http_head.TheConstants.{HTTP_HEAD_LIMIT}
use Rattle.warc_core.specs.HeadView.{HeadView}
use Rattle.capture_core.specs.Capture.{BlockValue}
use Rattle.capture_core.specs.RecordReading.{front_length}
use Rattle.capture_core.specs.CaptureSteps.{HasFront, FillsBehind, ReadsBlock}
use Rattle.capture_core.proofs.CaptureLemmas.{rest-behind, some-always, stopped}
use Rattle.capture_core.proofs.Steps.{goes-on-to, gives-behind-first}

-- a call failed by what it met behind the first bytes of the block
pub rest-stopped : (B : Type 0) (h : HeadView) (first : List ℕ) (old new : ReaderState) (f : Fault)
    → Reads (after_record (h.parts.block_length - length first)) (Err f.cause) (ahead old) (ahead new)
    → FailedBy new.reader h.start f → StopsRecord f.cause
    → CountsRead {A = B} (Err f.cause) old.failures new.failures
    → ReadsBlock h first old new (Err f)
rest-stopped B h first old new f b w s k = record {
  rest = stopped _ B _ h old new f b w s k;
  gives = some-always (ahead old) _ (λ bytes. tt);
  filled = tt;
}

block-stops : (c : Cause) → StopsBlock c → StopsRecord c
block-stops c s = grind arith

-- the first call failed in the block
pub given-failed : (h : HeadView) (old new : ReaderState) (f : Fault) (piece : List ℕ)
    → HasFront h [] old.reader
    → IfOpen old.reader.phase (λ left len. GivesBlock left len old new (Err f) piece)
    → ReadsBlock h [] old new (Err f)
given-failed h old new f piece ready gives =
    let b = rw ready.stands.phase_is at gives in
    rest-stopped (Unit {0}) h [] old new f (found-of-record f.cause _ _ _ b.bytes)
    (rw ready.stands.offset_is at b.state) (block-stops f.cause b.cause) b.failures

module _ (h : HeadView) (first front : List ℕ) (old mid : ReaderState) (ready : HasFront h first old.reader)
  where
    pub filled-failed : (f : Fault) → FillsBehind first old mid (Err f) front
        → ReadsBlock h first old mid (Err f)
    filled-failed f fills =
        let b = rw ready.stands.phase_is at fills.2 in
        rest-stopped (Unit {0}) h first old mid f (found-of-record f.cause _ _ _ b.given)
        (rw ready.stands.offset_is at b.state) (block-stops f.cause b.cause) b.failures

    pub filled-rest : (new : ReaderState) (r : Result BlockValue Fault)
        → length front ≤ front_length HTTP_HEAD_LIMIT h → FillsBehind first old mid (Ok tt) front
        → ReadsBlock h front mid new r → ReadsBlock h first old new r
    filled-rest new r within fills rest =
        let filled = rw ready.stands.phase_is at fills.2 in
        let long : length front ≡ length first + length fills.0 = ap length fills.1 ∙ length-append first fills.0 in
        record {
          rest = rest-behind _ _ h _ _ _ _ (grind (arith, goes-on-to)) filled.failures rest.rest;
          gives = grind (arith, gives-behind-first);
          filled = rest.filled;
        }

    -- then the reader stands behind the front
    pub filled-ready : length front ≤ front_length HTTP_HEAD_LIMIT h → FillsBehind first old mid (Ok tt) front
        → HasFront h front mid.reader
    filled-ready within fills = grind (arith, length-append)

-- what the first call gave is the front
pub given-behind : (n : ℕ) (old new : ReaderState) (piece front : List ℕ) → take n piece ≡ front
    → IfOpen old.reader.phase (λ left len. GivesBlock left len old new (Ok n) piece)
    → FillsBehind [] old new (Ok tt) front
given-behind n old new piece front same b = (front, refl, grind (arith, length-take-le))
