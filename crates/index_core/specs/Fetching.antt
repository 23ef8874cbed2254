-- The record that begins at an offset of an archive, and what a call that fetches it owes.
use Rattle.std.specs.Prelude.{◌≡◌, ℕ, ◌+◌, ◌<◌, ◌≤◌, ⊤, ◌⊎◌, List, length, take, drop, Option, Some, Result, Ok, Err}
use Rattle.std.specs.Prelude.{IfSome}
use Rattle.std.specs.Io.KnownBytes.{Appends}
use Rattle.warc_core.specs.declared.fault.Cause.{Cause}
use Rattle.warc_core.specs.declared.fault.Fault.{Fault}
use Rattle.devices.specs.Device.{AppendsPrefix}
use Rattle.warc_core.specs.HeadView.{HeadView, record_length}
use Rattle.warc_core.specs.Walk.{record_at, Walks, AreRecords, IsDamaged}
use Rattle.capture_core.specs.declared.fault.CaptureFault.TheVariants.{Archive}
use Rattle.index_core.specs.declared.fault.IndexFault.{IndexFault}
use Rattle.index_core.specs.declared.fault.IndexFault.TheVariants as faults
use Rattle.capture_core.specs.Fault.{fault_offset}
use Rattle.index_core.specs.Report.{IsNoDamage}

-- the limit of a head, and the archive
module _ (limit : ℕ) (archive : List ℕ) where
  -- whole records fill the archive up to this offset
  abbrev pub AreRecordsTo : ℕ → Type 0
  AreRecordsTo offset = (heads : List HeadView) × (rest : List ℕ) × Walks limit 0 archive heads offset rest

  -- a whole record of the archive begins at this offset, with this head
  pub record IsRecordOf (start : ℕ) (h : HeadView) : Type 0 where
    pub before : List HeadView
    pub bytes : List ℕ
    pub rest : List ℕ
    pub walks : Walks limit 0 archive before start bytes
    pub whole : record_at limit start bytes ≡ Ok (Some h, rest)

  -- The text of the record that begins at the offset.
  abbrev pub IsTextAt : ℕ → List ℕ → Type 0
  IsTextAt offset text = (h : HeadView) × IsRecordOf offset h × (text ≡ take (record_length h) (drop offset archive))

  -- A record begins before the offset and ends behind it.
  abbrev pub IsInRecord : ℕ → Type 0
  IsInRecord offset = (start : ℕ) × (h : HeadView) × IsRecordOf start h × (start < offset)
      × (offset < start + record_length h)

  -- The archive is whole records, and ends at the offset or before it.
  abbrev pub IsBehindRecords : ℕ → Type 0
  IsBehindRecords offset = (heads : List HeadView) × (whole : AreRecords limit archive heads) × (whole.end ≤ offset)

  -- The archive is damaged at the offset or before it.
  abbrev pub IsDamagedBy : ℕ → Fault → Type 0
  IsDamagedBy offset f = (heads : List HeadView) × IsDamaged limit archive heads f.offset f.cause × (f.offset ≤ offset)

  -- what stands at an offset: a record's text, or why there is none
  abbrev pub StandsIn : ℕ → Result (List ℕ) IndexFault → Type 0
  StandsIn offset (Ok text) = IsTextAt offset text
  StandsIn offset (Err faults.NoRecord) = IsInRecord offset ⊎ IsBehindRecords offset
  StandsIn offset (Err (faults.Capture (Archive f))) = IsDamagedBy offset f
  StandsIn offset (Err other) = ⊥

  -- the archive is damaged there, or couldn't be read on from there, for want of memory or by the input's failure
  abbrev pub StopsAt : ℕ → Fault → Type 0
  StopsAt offset f = StandsIn offset (Err (faults.Capture (Archive f))) ⊎ (IsNoDamage f.cause × AreRecordsTo f.offset)

-- of these bytes the text of the record that begins them, and all where none does
abbrev pub most_written : Result (Option HeadView × List ℕ) Cause → List ℕ → List ℕ
most_written (Ok (Some h, rest)) bytes = take (record_length h) bytes
most_written read bytes = bytes

-- what is written at most of the bytes from an offset on
abbrev pub most_written_at : ℕ → ℕ → List ℕ → List ℕ
most_written_at limit offset bytes = most_written (record_at limit offset bytes) bytes

-- What a call has written, and what it says of the archive where that is known.
abbrev pub Fetches : ℕ → ℕ → Option (List ℕ) → Result ℕ IndexFault → Option (List ℕ) → Option (List ℕ) → Type 0
Fetches limit offset left (Ok n) before after =
    (text : List ℕ) × (n ≡ length text) × Appends before after text
    × IfSome left (λ archive. StandsIn limit archive offset (Ok text))
Fetches limit offset left (Err faults.NoRecord) before after = IfSome left
    (λ archive. StandsIn limit archive offset (Err faults.NoRecord))
Fetches limit offset left (Err (faults.Capture (Archive f))) before after =
    (f.offset ≤ offset) × IfSome left (λ archive. StopsAt limit archive offset f
    × AppendsPrefix before after (most_written_at limit offset (drop offset archive)))
Fetches limit offset left (Err faults.Write) before after =
    IfSome left (λ archive. AreRecordsTo limit archive offset
    × AppendsPrefix before after (most_written_at limit offset (drop offset archive)))
Fetches limit offset left (Err other) before after = ⊥

-- a record isn't fetched where none begins, for the archive's fault, or where the output failed
abbrev pub IsFetchFault : IndexFault → Type 0
IsFetchFault faults.NoRecord = ⊤
IsFetchFault (faults.Capture (Archive f)) = ⊤
IsFetchFault faults.Write = ⊤
IsFetchFault other = ⊥

-- the fault was met before the offset was reached, or where no record begins
abbrev pub IsMetBefore : ℕ → IndexFault → Type 0
IsMetBefore offset faults.NoRecord = ⊤
IsMetBefore offset (faults.Capture fault) = fault_offset fault < offset
IsMetBefore offset other = ⊥
