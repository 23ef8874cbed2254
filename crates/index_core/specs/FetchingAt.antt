-- The record of a length that begins at an offset of an archive, whatever precedes it.
use Rattle.std.specs.Prelude.{◌≡◌, ◌≢◌, ℕ, ◌<◌, ◌≤◌, ◌-◌, ◌^◌, ◌⊎◌, List, [], length, take, drop, Option, Some}
use Rattle.std.specs.Prelude.{Result, Ok, Err, IfSome, option_map}
use Rattle.std.specs.Io.KnownBytes.{Appends}
use Rattle.devices.specs.Device.{AppendsPrefix}
use Rattle.warc_core.specs.HeadView.{HeadView, record_length}
use Rattle.warc_core.specs.Reading.{Reads, IsPossibleCause}
use Rattle.warc_core.specs.Record.{after_record}
use Rattle.warc_core.specs.Walk.{record_at}
use Rattle.capture_core.specs.declared.fault.CaptureFault.TheVariants.{Archive}
use Rattle.index_core.specs.declared.fault.IndexFault.{IndexFault}
use Rattle.index_core.specs.declared.fault.IndexFault.TheVariants as faults
use Rattle.index_core.specs.Copying.{CopiesRecord}
use Rattle.index_core.specs.Fetching.{most_written_at}

-- the limit of a head, the offset, and the bytes from the offset on
module _ (limit offset : ℕ) (bytes : List ℕ) where
  -- the bytes begin with a record of this length, whose text this is
  abbrev pub BeginsRecord : ℕ → List ℕ → Type 0
  BeginsRecord len text = (h : HeadView) × (rest : List ℕ) × (record_at limit offset bytes ≡ Ok (Some h, rest))
      × (record_length h ≡ len) × (text ≡ take len bytes)

  -- they begin with a record of another length
  abbrev pub BeginsOther : ℕ → Type 0
  BeginsOther len = (h : HeadView) × (rest : List ℕ) × (record_at limit offset bytes ≡ Ok (Some h, rest))
      × (record_length h ≢ len)

-- the record of this length that comes next was copied, or its front
abbrev pub CopiesNextOf : ℕ → ℕ → ℕ → Result ℕ IndexFault → Option (List ℕ) → Option (List ℕ) → Option (List ℕ)
    → Type 0
CopiesNextOf limit offset len (Ok n) bytes before after = (n ≡ len) × (text : List ℕ) × (n ≡ length text)
    × Appends before after text × IfSome bytes (λ b. BeginsRecord limit offset b len text)
CopiesNextOf limit offset len (Err faults.NoRecord) bytes before after = IfSome bytes
    (λ b. (b ≡ []) ⊎ BeginsOther limit offset b len)
CopiesNextOf limit offset len (Err (faults.Capture (Archive f))) bytes before after =
    (f.offset ≡ offset) × IfSome bytes (λ b. IsPossibleCause f.cause (record_at limit offset b)
    × AppendsPrefix before after (most_written_at limit offset b))
CopiesNextOf limit offset len (Err faults.Write) bytes before after = IfSome bytes
    (λ b. AppendsPrefix before after (most_written_at limit offset b))
CopiesNextOf limit offset len (Err other) bytes before after = ⊥

-- What a call has written that fetches the record of a length at an offset, and what it says of the archive where that
-- is known. No record begins past the greatest offset.
abbrev pub FetchesAt : ℕ → ℕ → ℕ → Option (List ℕ) → Result ℕ IndexFault → Option (List ℕ) → Option (List ℕ) → Type 0
FetchesAt limit offset len left result before after = ((2 ^ 63 - 1 < offset) × (result ≡ Err faults.NoRecord))
    ⊎ ((offset ≤ 2 ^ 63 - 1) × CopiesNextOf limit offset len result (option_map (drop offset) left) before after)

-- an open record, with this much of its block left, was read to its end, or it is at fault there
abbrev pub PassesRecord : ℕ → ℕ → Result ℕ IndexFault → Option (List ℕ) → Option (List ℕ) → Type 0
PassesRecord left offset (Err faults.NoRecord) bytes rest = Reads (after_record left) (Ok tt) bytes rest
PassesRecord left offset (Err (faults.Capture (Archive f))) bytes rest = (f.offset ≡ offset)
    × Reads (after_record left) (Err f.cause) bytes rest
PassesRecord left offset result bytes rest = ⊥

-- a record whose head was read is passed over, since it has another length
pub record PassesOver (h : HeadView) (len : ℕ) (bytes rest : Option (List ℕ)) : Type 0 where
  pub other : record_length h ≢ len
  pub whole : Reads (after_record h.parts.block_length) (Ok tt) bytes rest

-- a record whose head was read was copied if it has this length, or its front
abbrev pub CopiesRecordOf : HeadView → ℕ → Result ℕ IndexFault → Option (List ℕ) → Option (List ℕ)
    → Option (List ℕ) → Option (List ℕ) → Type 0
CopiesRecordOf h len (Err faults.NoRecord) bytes rest before after = PassesOver h len bytes rest
CopiesRecordOf h len (Err (faults.Capture (Archive f))) bytes rest before after =
    CopiesRecord h (Err (faults.Capture (Archive f))) bytes rest before after
CopiesRecordOf h len result bytes rest before after = (record_length h ≡ len)
    × CopiesRecord h result bytes rest before after
