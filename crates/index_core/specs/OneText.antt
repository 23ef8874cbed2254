-- Laws that what is known of an archive decides what a call answers and writes.
use Rattle.std.specs.Prelude.{◌≡◌, ℕ, ⊤, ◌⊎◌, Bool, List, ◌++◌, Option, Some, Result, Ok, Err, IfErr, IfOk}
use Rattle.std.specs.Io.KnownBytes.{Appends}
use Rattle.devices.specs.Device.{AppendsPrefix}
use Rattle.devices.specs.Writing.{WritesText}
use Rattle.warc_core.specs.declared.fault.Fault.{Fault}
use Rattle.warc_core.specs.Kind.{Kind}
use Rattle.cdxj_core.specs.Entries.{EntryValue}
use Rattle.capture_core.specs.declared.fault.CaptureFault.TheVariants.{Archive}
use Rattle.capture_core.specs.CaptureAnswer.{Limits}
use Rattle.index_core.specs.declared.fault.IndexFault.{IndexFault}
use Rattle.index_core.specs.declared.fault.IndexFault.TheVariants as faults
use Rattle.index_core.specs.Adding.{Adds, with_archive}
use Rattle.index_core.specs.Fetching.{Fetches, IsMetBefore}
use Rattle.index_core.specs.FetchingAt.{FetchesAt}
use Rattle.index_core.specs.FetchingIn.{FetchesMember}
use Rattle.archives.specs.Contents.{contents}
use Rattle.archives.specs.Packing.{Packing, form_to}
use Rattle.index_core.specs.Indexing.{Held, index_text}
use Rattle.index_core.specs.Laws.{IsNoFaultOfArchive}
use Rattle.index_core.specs.Report.{IsNoDamage, Reports, Wording, fault_line, report_answer, report_text}

-- The archive isn't the reason of the result: a device failed, there was no memory, a key is too long, or the archive's
-- name was refused.
abbrev pub IsFailure : {A : Type 0} → Result A IndexFault → Type 0
IsFailure (Ok answer) = ⊥
IsFailure (Err (faults.Capture fault)) = IsNoFaultOfArchive fault
IsFailure (Err faults.NoRecord) = ⊥
IsFailure (Err other) = ⊤

-- the archive decides the result
abbrev pub IsOfArchive : {A : Type 0} → Result A IndexFault → Type 0
IsOfArchive result = IsFailure result → ⊥

-- Behind what there was, the one output has a text, and the other a front of it.
abbrev pub HasFront : List ℕ → Option (List ℕ) → Option (List ℕ) → Type 0
HasFront before whole part = (front : List ℕ) × (more : List ℕ) × (whole ≡ Some (before ++ (front ++ more)))
    × (part ≡ Some (before ++ front))

-- ---- reports

-- What of a report was written by a call that failed, by its result: a front, and the line of the fault. If the output
-- failed, a front of this or of the report.
abbrev pub WritesPart : {A : Type 0} → List ℕ → Result A IndexFault → Option (List ℕ) → Option (List ℕ) → Type 0
WritesPart text (Err (faults.Capture (Archive f))) before after =
    (front : List ℕ) × (more : List ℕ) × (text ≡ front ++ more) × Appends before after (front ++ fault_line f)
WritesPart text (Err faults.Write) before after = AppendsPrefix before after text
    ⊎ ((f : Fault) × IsNoDamage f.cause × (front : List ℕ) × (more : List ℕ) × (text ≡ front ++ more)
    × AppendsPrefix before after (front ++ fault_line f))
WritesPart text result before after = ⊥

-- A call that reports on an archive has answered and written this report, or a part of it where a device failed or there
-- was no memory.
abbrev pub IsReport : {A X : Type 0} → Wording A X → Type 0
IsReport {A} words = (limit : ℕ) (packing : Packing) (archive : List ℕ) (result : Result A IndexFault)
    (before after : Option (List ℕ)) → Reports (form_to limit packing) words (Some archive) result before after
    → (IsOfArchive result → (result ≡ report_answer words (contents (form_to limit packing) 0 archive))
    × Appends before after (report_text words (contents (form_to limit packing) 0 archive)))
    × (IsFailure result → WritesPart (report_text words (contents (form_to limit packing) 0 archive)) result before after)

-- ---- the record at an offset

-- nothing was written where no record begins or the archive is damaged before the offset
abbrev pub IsUnwritten : ℕ → Result ℕ IndexFault → Option (List ℕ) → Option (List ℕ) → Type 0
IsUnwritten offset result before after = IfErr result (λ fault. IsMetBefore offset fault → after ≡ before)

-- the archive isn't damaged at the offset
abbrev pub IsNotDamagedAt : ℕ → Result ℕ IndexFault → Type 0
IsNotDamagedAt offset (Ok n) = ⊤
IsNotDamagedAt offset (Err fault) = IsMetBefore offset fault

-- A call that promises this of the record at an offset has one answer for an archive. It writes one text, except for a
-- front of what is damaged at the offset.
abbrev pub PromisesOneRecord : ℕ → (Result ℕ IndexFault → Option (List ℕ) → Option (List ℕ) → Type 0) → Type 0
PromisesOneRecord offset promise = (before : List ℕ) (this that : Result ℕ IndexFault) (text other : Option (List ℕ))
    → IsOfArchive this → IsOfArchive that → promise this (Some before) text → promise that (Some before) other
    → IsUnwritten offset this (Some before) text → IsUnwritten offset that (Some before) other
    → (this ≡ that) × (IsNotDamagedAt offset this → text ≡ other)

-- If it fails, it has written a front of the record.
abbrev pub PromisesFront : (Result ℕ IndexFault → Option (List ℕ) → Option (List ℕ) → Type 0) → Type 0
PromisesFront promise = (before : List ℕ) (n : ℕ) (that : Result ℕ IndexFault) (text other : Option (List ℕ))
    → IsFailure that → promise (Ok n) (Some before) text → promise that (Some before) other
    → HasFront before text other

-- the record at an offset is one text
abbrev pub FetchesOneText : Type 0
FetchesOneText = (limit offset : ℕ) (archive : List ℕ) → PromisesOneRecord offset (Fetches limit offset (Some archive))

abbrev pub FetchesFront : Type 0
FetchesFront = (limit offset : ℕ) (archive : List ℕ) → PromisesFront (Fetches limit offset (Some archive))

-- and the record of a length at an offset
abbrev pub FetchesAtOneText : Type 0
FetchesAtOneText = (limit offset len : ℕ) (archive : List ℕ)
    → PromisesOneRecord offset (FetchesAt limit offset len (Some archive))

abbrev pub FetchesAtFront : Type 0
FetchesAtFront = (limit offset len : ℕ) (archive : List ℕ)
    → PromisesFront (FetchesAt limit offset len (Some archive))

-- The record of the member at an offset is one too. It is one text; where a device fails, a front of it was written.
abbrev pub FetchesMemberOneText : Type 0
FetchesMemberOneText = (limit offset : ℕ) (asked : Option ℕ) (bytes before : List ℕ) (this that : Result ℕ IndexFault)
    (text other : Option (List ℕ)) → IsOfArchive this → IsOfArchive that
    → FetchesMember limit asked offset (Some bytes) this (Some before) text
    → FetchesMember limit asked offset (Some bytes) that (Some before) other
    → (this ≡ that) × IfOk this (λ n. text ≡ other)

abbrev pub FetchesMemberFront : Type 0
FetchesMemberFront = (limit offset : ℕ) (asked : Option ℕ) (bytes : List ℕ)
    → PromisesFront (FetchesMember limit asked offset (Some bytes))

-- ---- indexes

-- An archive adds one list of captures to what is held, with one answer.
abbrev pub AddsOneList : Type 0
AddsOneList = (types : Kind → Bool) (limits : Limits) (limit : ℕ) (packing : Packing) (name archive : List ℕ)
    (old new other : Held) (this that : Result ℕ IndexFault)
    → IsOfArchive this → IsOfArchive that
    → Adds types limits (form_to limit packing) name (Some archive) old new this
    → Adds types limits (form_to limit packing) name (Some archive) old other that → (this ≡ that) × (new ≡ other)

-- the first of the captures that the one added, by the answer of the other
abbrev pub HasFirst : List ℕ → Held → Held → Held → Result ℕ IndexFault → Type 0
HasFirst name old whole part (Err (faults.Capture fault)) = (captures : List EntryValue) × (more : List EntryValue)
    × (whole ≡ with_archive name (captures ++ more) old) × (part ≡ with_archive name captures old)
HasFirst name old whole part result = part ≡ old

-- If an addition fails, it has added the first of them, or nothing.
abbrev pub AddsFirst : Type 0
AddsFirst = (types : Kind → Bool) (limits : Limits) (limit : ℕ) (packing : Packing) (name archive : List ℕ)
    (old new other : Held) (this that : Result ℕ IndexFault)
    → IsOfArchive this → IsFailure that
    → Adds types limits (form_to limit packing) name (Some archive) old new this
    → Adds types limits (form_to limit packing) name (Some archive) old other that → HasFirst name old new other that

-- the index of the captures that are held is one text
abbrev pub WritesOneIndex : Type 0
WritesOneIndex = (captures : List EntryValue) (before : List ℕ) (n m : ℕ) (text other : Option (List ℕ))
    → WritesText {E = IndexFault} (Ok n) (Some before) text (index_text captures)
    → WritesText {E = IndexFault} (Ok m) (Some before) other (index_text captures) → text ≡ other

-- after an error a front of it was written
abbrev pub WritesIndexFront : Type 0
WritesIndexFront = (captures : List EntryValue) (before : List ℕ) (n : ℕ) (fault : IndexFault)
    (text other : Option (List ℕ))
    → WritesText {E = IndexFault} (Ok n) (Some before) text (index_text captures)
    → WritesText {A = ℕ} (Err fault) (Some before) other (index_text captures) → HasFront before text other
