-- What the calls of a reader do.
use Rattle.std.specs.Prelude.{◌≡◌, ℕ, ◌+◌, ◌-◌, ◌≤◌, ◌<◌, ⊤, List, length, take, Option, None, Some, Result, Err}
use Rattle.std.specs.Prelude.{MatchResult, IfOk, IfErr, IfSome}
use Rattle.std.specs.Io.KnownBytes.{Consumes}
use Rattle.warc_core.specs.declared.fault.Cause.{Cause}
use Rattle.warc_core.specs.declared.fault.Fault.{Fault}
use Rattle.warc_core.specs.declared.phase.Phase.{Phase}
use Rattle.warc_core.specs.declared.phase.Phase.TheVariants.{Between, Open}
use Rattle.warc_core.specs.Answers.{CountsRead, causes_of, cause_only}
use Rattle.warc_core.specs.Cause.{StopsBlock, StopsRecord, StopsHead}
use Rattle.warc_core.specs.HeadView.{HeadView, RecordBeginsAt}
use Rattle.warc_core.specs.Next.{next_at}
use Rattle.warc_core.specs.ReaderView.{ReaderView, ReaderState, ahead, StandsAt, IsUnread, FailedBy}
use Rattle.warc_core.specs.Reading.{Reads, IsPossibleFault}
use Rattle.warc_core.specs.Record.{after_record, after_block}

-- a call read an open record to its end, or failed by what it met
pub record Finishes (left length : ℕ) (old new : ReaderState) (r : Result ℕ Fault) : Type 0 where
  pub bytes : Reads (after_record left) (cause_only r) (ahead old) (ahead new)
  pub state : MatchResult r (λ n. (n ≡ length) × StandsAt new.reader (old.reader.offset + length) Between)
      (FailedBy new.reader old.reader.offset)
  pub cause : IfErr r (λ f. StopsRecord f.cause)
  pub failures : CountsRead (cause_only r) old.failures new.failures

-- a call gave the next bytes of an open record's block, or failed by what it met
pub record GivesBlock (left len : ℕ) (old new : ReaderState) (r : Result ℕ Fault) (piece : List ℕ) : Type 0 where
  pub bytes : MatchResult r (λ n. Consumes (ahead old) (ahead new) (take n piece))
      (λ f. IsPossibleFault (after_block left) f.cause (ahead old))
  pub bound : MatchResult r (λ n. (n ≤ left) × (n ≤ length piece) × (0 < left → 0 < length piece → 0 < n)) (λ _. ⊤)
  pub state : MatchResult r (λ n. StandsAt new.reader old.reader.offset (Open (left - n) len))
      (FailedBy new.reader old.reader.offset)
  pub cause : IfErr r (λ f. StopsBlock f.cause)
  pub failures : CountsRead (cause_only r) old.failures new.failures

-- a call filled a piece with the next bytes of an open record's block, or failed by what it met
pub record Fills (left len : ℕ) (old new : ReaderState) (r : Result (Unit {0}) Fault) (piece : List ℕ) : Type 0 where
  pub given : MatchResult r (λ _. Consumes (ahead old) (ahead new) piece)
      (λ f. IsPossibleFault (after_block left) f.cause (ahead old))
  pub state : MatchResult r (λ _. StandsAt new.reader old.reader.offset (Open (left - length piece) len))
      (FailedBy new.reader old.reader.offset)
  pub cause : IfErr r (λ f. StopsBlock f.cause)
  pub failures : CountsRead (causes_of r) old.failures new.failures

-- A call in an open record answered what f reads at the front of what is left, and left the reader at this offset, in
-- this phase; or it failed by what it met.
pub record ReadsTo {A : Type 0} (f : List ℕ → Result (A × List ℕ) Cause) (offset : ℕ) (phase : Phase)
    (old new : ReaderState) (r : Result A Fault) : Type 0 where
  pub bytes : Reads f (causes_of r) (ahead old) (ahead new)
  pub state : MatchResult r (λ _. StandsAt new.reader offset phase) (FailedBy new.reader old.reader.offset)
  pub cause : IfErr r (λ f. StopsRecord f.cause)
  pub failures : CountsRead (causes_of r) old.failures new.failures

-- a head opens its record, and the end leaves the reader where it stands
abbrev pub Opens : ReaderView → ℕ → Option HeadView → Type 0
Opens new offset None = StandsAt new offset Between
Opens new offset (Some h) = IsUnread new h

-- a call between records read what comes next, or failed by it
pub record GoesNext (limit : ℕ) (old new : ReaderState) (r : Result (Option HeadView) Fault) : Type 0 where
  pub bytes : Reads (next_at limit old.reader.offset) (causes_of r) (ahead old) (ahead new)
  pub state : MatchResult r (Opens new.reader old.reader.offset) (FailedBy new.reader old.reader.offset)
  pub cause : IfErr r (λ f. StopsHead f.cause)
  pub failures : CountsRead (causes_of r) old.failures new.failures
  pub begins : IfOk r (λ o. IfSome o (RecordBeginsAt old.reader.offset))

-- a call in an open record finished it, and then read what comes next, unless finishing failed
pub record FinishesAndGoesNext (limit left len : ℕ) (old new : ReaderState) (r : Result (Option HeadView) Fault) : Type
    0 where
  -- how finishing ended, and where
  pub mid : ReaderState
  pub finish : Result ℕ Fault
  pub finished : Finishes left len old mid finish
  pub follows : MatchResult finish (λ _. GoesNext limit mid new r) (λ f. (r ≡ Err f) × (new ≡ mid))
