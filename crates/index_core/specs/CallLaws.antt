-- Laws of how calls end, which failures they count, and what they write of a record.
use Rattle.std.specs.List.{AllByRecursion}
use Rattle.std.specs.Prelude.{◌≡◌, ◌⊎◌, Bool, ℕ, ◌+◌, ◌≤◌, ◌^◌, ◌-◌, List, [], ◌∷◌, ◌++◌, length, map, Option, Some, Result, Ok, Err}
use Rattle.cdxj_core.specs.Entries.{EntryValue}
use Rattle.cdxj_core.specs.Indexes.{IsIndex}
use Rattle.cdxj_core.specs.Members.{entry_member}
use Rattle.capture_core.specs.declared.fault.CaptureFault.{CaptureFault}
use Rattle.archives.specs.Packing.{Packing, form_of}
use Rattle.capture_core.specs.CaptureAnswer.{Limits}
use Rattle.capture_core.specs.Fault.{fault_offset}
use Rattle.warc_core.specs.HeadView.{HeadView}
use Rattle.warc_core.specs.Kind.{Kind}
use Rattle.warc_core.specs.Walk.{AreRecords}
use Rattle.index_core.specs.declared.fault.IndexFault.{IndexFault}
use Rattle.index_core.specs.declared.fault.IndexFault.TheVariants as faults
use Rattle.index_core.specs.Adding.{Gains, IsAddFault, IsRefusal}
use Rattle.index_core.specs.Counting.{CountsIndex, CountsIndexWrite, CountsInput}
use Rattle.index_core.specs.Fetching.{IsFetchFault}
use Rattle.index_core.specs.Indexing.{AreSound, IsWriteFault, in_places, index_text}
use Rattle.index_core.specs.OneRecord.{IsOneRecord, WritesOneRecord}
use Rattle.index_core.specs.Report.{IsReportFault}

-- ---- what a call answers decides the counts of failures

abbrev pub IndexCountIsOne : Type 0
IndexCountIsOne = (result : Result ℕ IndexFault) (old this that : ℕ) → CountsIndex result old this
    → CountsIndex result old that → this ≡ that

abbrev pub WriteCountIsOne : Type 0
WriteCountIsOne = (result : Result ℕ IndexFault) (old this that : ℕ) → CountsIndexWrite result old this
    → CountsIndexWrite result old that → this ≡ that

-- but for an input whose reader may have failed before the output did
abbrev pub InputCountIsOne : Type 0
InputCountIsOne = (result : Result ℕ IndexFault) (old this that : ℕ) → (result ≡ Err faults.Write → ⊥)
    → CountsInput result old this → CountsInput result old that → this ≡ that

abbrev pub InputCountRises : Type 0
InputCountRises = (result : Result ℕ IndexFault) (old new : ℕ) → old ≤ 2 ^ 64 - 1 → CountsInput result old new → old ≤ new

-- ---- how calls end

-- no addition fails in writing, or for a record that isn't there
abbrev pub AddFaultsAre : Type 0
AddFaultsAre = (fault : IndexFault) → IsAddFault fault → (fault ≡ faults.Write → ⊥) × (fault ≡ faults.NoRecord → ⊥)

-- what was refused before it was read has no damage
abbrev pub RefusalsAre : Type 0
RefusalsAre = (fault : CaptureFault) → IsRefusal (faults.Capture fault) → ⊥

-- no name is refused by a call that fetches or reports
abbrev pub IsOfName : IndexFault → Type 0
IsOfName fault = (fault ≡ faults.BadName) ⊎ (fault ≡ faults.DuplicateName)

abbrev pub FetchFaultsAre : Type 0
FetchFaultsAre = (fault : IndexFault) → IsFetchFault fault → IsOfName fault → ⊥

-- and no report misses a record
abbrev pub ReportFaultsAre : Type 0
ReportFaultsAre = (fault : IndexFault) → IsReportFault fault → IsOfName fault ⊎ (fault ≡ faults.NoRecord) → ⊥

-- an index isn't written for want of memory, or where the output failed
abbrev pub WriteFaultsAre : Type 0
WriteFaultsAre = (fault : IndexFault) → IsWriteFault fault → (fault ≡ faults.Memory) ⊎ (fault ≡ faults.Write)

-- ---- the record that is fetched

-- what is fetched is itself an archive, of this one record
abbrev pub FetchedIsArchive : Type 0
FetchedIsArchive = (limit n : ℕ) (before : List ℕ) (after : Option (List ℕ)) → n ≤ 2 ^ 63 - 1
    → WritesOneRecord limit {E = IndexFault} (Ok n) (Some before) after
    → (text : List ℕ) × (h : HeadView) × (after ≡ Some (before ++ text)) × (n ≡ length text)
    × AreRecords limit text (h ∷ [])

-- after a fault nothing was written, or a front of one record
abbrev pub PartIsFront : Type 0
PartIsFront = (limit : ℕ) (fault : IndexFault) (before : List ℕ) (after : Option (List ℕ))
    → WritesOneRecord limit {E = IndexFault} (Err fault) (Some before) after
    → (front : List ℕ) × (after ≡ Some (before ++ front)) × ((front ≡ []) ⊎ ((more : List ℕ) × IsOneRecord limit (front ++ more)))

-- ---- the index of what is held

-- the index of sound captures is one, with a line for each of them
abbrev pub SoundAreIndexed : Type 0
SoundAreIndexed = (limit : ℕ) (names : List (List ℕ)) (captures : List EntryValue) → AreSound limit names captures
    → IsIndex limit (index_text captures) (map entry_member (in_places captures))
    × (length (in_places captures) ≡ length captures)

-- ---- captures before a fault

-- over any bytes, what was added before a fault ends by the fault's offset
abbrev pub AddedEndByFault : Type 0
AddedEndByFault = (types : Kind → Bool) (limits : Limits) (packing : Packing) (name : List ℕ) (left : Option (List ℕ))
    (captures : List EntryValue) (fault : CaptureFault) → Gains types limits (form_of packing) name left captures (Err fault)
    → AllByRecursion (λ e. e.offset + e.length ≤ fault_offset fault) captures
