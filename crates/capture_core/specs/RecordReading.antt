-- How a capture reads its record.
use Rattle.std.specs.Prelude.{◌≡◌, ℕ, ◌+◌, min, Result, Ok, Err, IfErr, if◌then◌else◌}
use Rattle.warc_core.specs.declared.fault.Cause.{Cause}
use Rattle.warc_core.specs.declared.fault.Cause.TheVariants as causes
use Rattle.warc_core.specs.declared.fault.Fault.{Fault}
use Rattle.warc_core.specs.declared.phase.Phase.TheVariants.{Between, Open, Failed}
use Rattle.warc_core.specs.Answers.{CountsRead}
use Rattle.warc_core.specs.Cause.{StopsRecord}
use Rattle.warc_core.specs.HeadView.{HeadView, record_length}
use Rattle.warc_core.specs.Reading.{Reads}
use Rattle.warc_core.specs.ReaderView.{ReaderView, ReaderState, ahead, StandsAt}
use Rattle.warc_core.specs.Record.{after_record}
use Rattle.capture_core.specs.declared.fault.CaptureFault.{CaptureFault}
use Rattle.capture_core.specs.declared.fault.CaptureFault.TheVariants.{Archive, LineTooLong, KeyTooLong}
use Rattle.capture_core.specs.Indexed.{may_have_head}

-- how a record was read that ended so: a refused growth leaves it read whole
abbrev pub reading_after : Cause → Result (Unit {0}) Cause
reading_after causes.Memory = Ok tt
reading_after c = Err c

-- how a record was read, by what was answered of it: only a fault of the archive ends the reading
abbrev pub reading_of : {A : Type 0} → Result A CaptureFault → Result (Unit {0}) Cause
reading_of (Ok x) = Ok tt
reading_of (Err (Archive f)) = reading_after f.cause
reading_of (Err (LineTooLong o)) = Ok tt
reading_of (Err (KeyTooLong o)) = Ok tt

-- the same, by an answer whose fault is the archive's
abbrev pub reading_by : {A : Type 0} → Result A Fault → Result (Unit {0}) Cause
reading_by (Ok x) = Ok tt
reading_by (Err f) = reading_after f.cause

-- the fault names this offset
abbrev pub IsCaptureFaultAt : ℕ → CaptureFault → Type 0
IsCaptureFaultAt start (Archive f) = f.offset ≡ start
IsCaptureFaultAt start (LineTooLong o) = o ≡ start
IsCaptureFaultAt start (KeyTooLong o) = o ≡ start

-- where the reader stands: after the record, or failed at its start
abbrev pub Leaves : HeadView → ReaderView → Result (Unit {0}) Cause → Type 0
Leaves h new (Ok x) = StandsAt new (h.start + record_length h) Between
Leaves h new (Err c) = StandsAt new h.start (Failed c)

-- A call read the record to its end, of whose block so many bytes were left, or failed by what it met.
pub record ReadsTo (left : ℕ) (h : HeadView) (old new : ReaderState) (reading : Result (Unit {0}) Cause) : Type 0 where
  pub bytes : Reads (after_record left) reading (ahead old) (ahead new)
  pub state : Leaves h new.reader reading
  pub cause : IfErr reading StopsRecord
  pub failures : CountsRead reading old.failures new.failures

-- the same of an answer, whose fault is at the record's offset
pub record ReadsRest {A : Type 0} (left : ℕ) (h : HeadView) (old new : ReaderState) (r : Result A Fault) : Type 0 where
  pub reads : ReadsTo left h old new (reading_by r)
  pub fault : IfErr r (λ f. f.offset ≡ h.start)

-- A call read the record to its end, or failed by what it met.
pub record ReadsWhole {A : Type 0} (h : HeadView) (old new : ReaderState) (r : Result A CaptureFault) : Type 0 where
  pub reads : ReadsTo h.parts.block_length h old new (reading_of r)
  pub fault : IfErr r (IsCaptureFaultAt h.start)

-- the reader stands in this record
abbrev pub IsOpenFor : HeadView → ReaderView → Type 0
IsOpenFor h r = (left : ℕ) × StandsAt r h.start (Open left (record_length h))

-- how many bytes of the block are looked at for an HTTP head
abbrev pub front_limit : ℕ → HeadView → ℕ
front_limit limit h = if may_have_head h then limit else 0

-- the front of a block, which is looked at for an HTTP head, has this length
abbrev pub front_length : ℕ → HeadView → ℕ
front_length limit h = min h.parts.block_length (front_limit limit h)
