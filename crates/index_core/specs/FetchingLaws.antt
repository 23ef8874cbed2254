-- Laws of the two forms of `get`: the record at an offset, and the record of a length at an offset.
use Rattle.std.specs.Prelude.{◌≡◌, ℕ, ◌≤◌, ⊤, ◌⊎◌, Bool, List, length, Option, Some, Result, Ok, Err}
use Rattle.std.specs.Io.KnownBytes.{Appends}
use Rattle.devices.specs.Device.{AppendsPrefix}
use Rattle.cdxj_places.specs.Rising.{IsIn}
use Rattle.warc_core.specs.HeadView.{HeadView, record_length}
use Rattle.warc_core.specs.Kind.{Kind}
use Rattle.cdxj_core.specs.Entries.{EntryValue}
use Rattle.capture_core.specs.declared.fault.CaptureFault.TheVariants.{Archive}
use Rattle.capture_core.specs.CaptureAnswer.{Limits}
use Rattle.capture_core.specs.Fault.{fault_offset}
use Rattle.index_core.specs.declared.fault.IndexFault.{IndexFault}
use Rattle.index_core.specs.declared.fault.IndexFault.TheVariants as faults
use Rattle.index_core.specs.Fetching.{AreRecordsTo, IsRecordOf, IsTextAt, Fetches}
use Rattle.index_core.specs.FetchingAt.{FetchesAt}
use Rattle.archives.specs.Form.{plain}
use Rattle.index_core.specs.Laws.{IsIndexed}
use Rattle.index_core.specs.Report.{IsNoDamage}

-- Whole records fill the archive up to the offset, and the record that begins there, if one does, has this length.
pub record IsReached (limit : ℕ) (archive : List ℕ) (offset len : ℕ) : Type 0 where
  pub records : AreRecordsTo limit archive offset
  pub sized : (h : HeadView) → IsRecordOf limit archive offset h → record_length h ≡ len

-- no fault was met before the offset
abbrev pub IsFromOffset : ℕ → Result ℕ IndexFault → Type 0
IsFromOffset offset (Err (faults.Capture fault)) = offset ≤ fault_offset fault
IsFromOffset offset result = ⊤

-- what the form with a length has done, the form without one may have done
abbrev pub LengthAgrees : Type 0
LengthAgrees = (limit offset len : ℕ) (archive : List ℕ) (result : Result ℕ IndexFault) (before after : Option (List ℕ))
    → IsReached limit archive offset len
    → FetchesAt limit offset len (Some archive) result before after
    → Fetches limit offset (Some archive) result before after

-- and the other way round, except for a fault before the offset, which only the form without a length may meet
abbrev pub OffsetAgrees : Type 0
OffsetAgrees = (limit offset len : ℕ) (archive : List ℕ) (result : Result ℕ IndexFault) (before after : Option (List ℕ))
    → IsReached limit archive offset len → IsFromOffset offset result
    → Fetches limit offset (Some archive) result before after
    → FetchesAt limit offset len (Some archive) result before after

-- This text was written, or a prefix of it where a device failed or there was no memory.
abbrev pub WroteRecord : List ℕ → Result ℕ IndexFault → Option (List ℕ) → Option (List ℕ) → Type 0
WroteRecord text (Ok n) before after = (n ≡ length text) × Appends before after text
WroteRecord text (Err (faults.Capture (Archive f))) before after = IsNoDamage f.cause × AppendsPrefix before after text
WroteRecord text (Err faults.Write) before after = AppendsPrefix before after text
WroteRecord text (Err other) before after = ⊥

-- the capture's record stands in the archive, with its length, and both forms write its text
abbrev pub IsFetched : ℕ → List ℕ → EntryValue → Type 0
IsFetched limit archive e =
    (text : List ℕ) × IsTextAt limit archive e.offset text × (length text ≡ e.length)
    × ((result : Result ℕ IndexFault) (before after : Option (List ℕ))
    → Fetches limit e.offset (Some archive) result before after
    ⊎ FetchesAt limit e.offset e.length (Some archive) result before after
    → WroteRecord text result before after)

-- so of each capture of an archive
abbrev pub CapturesAreFetched : Type 0
CapturesAreFetched = (types : Kind → Bool) (limits : Limits) (limit : ℕ) (name archive : List ℕ)
    (captures : List EntryValue) (e : EntryValue)
    → IsIndexed types limits (plain limit) name archive captures → IsIn e captures → IsFetched limit archive e
