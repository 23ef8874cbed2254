-- Laws of the definitions that the contracts cite.
use Rattle.std.specs.Prelude.{◌≡◌, ℕ, ◌≤◌, ⊤, ◌⊎◌, Bool, List, ◌++◌, drop, map, Some, Result}
use Rattle.cdxj_places.specs.Rising.{IsIn}
use Rattle.warc_core.specs.HeadView.{HeadView, record_length}
use Rattle.warc_core.specs.Kind.{Kind}
use Rattle.cdxj_core.specs.Entries.{EntryValue}
use Rattle.capture_core.specs.declared.fault.CaptureFault.{CaptureFault}
use Rattle.capture_core.specs.declared.fault.CaptureFault.TheVariants.{Archive, LineTooLong, KeyTooLong}
use Rattle.capture_core.specs.CaptureAnswer.{Limits}
use Rattle.index_core.specs.declared.fault.IndexFault.{IndexFault}
use Rattle.archives.specs.Captures.{IsCaptureFrom}
use Rattle.index_core.specs.Accepted.{IsAccepted, IsAcceptedTo, IsAcceptedWhole}
use Rattle.index_core.specs.Adding.{AreByHeads}
use Rattle.index_core.specs.Indexing.{AreNamed}
use Rattle.warc_core.specs.declared.fault.Fault.{Fault}
use Rattle.warc_core.specs.Walk.{AreRecords, IsDamaged}
use Rattle.archives.specs.Packing.{Packing, form_to}
use Rattle.archives.specs.Form.{BreaksAfter, ConsistsOf, Form, Stored, plain, plain_record}
use Rattle.index_core.specs.Fetching.{IsRecordOf, StandsIn}
use Rattle.index_core.specs.Report.{IsNoDamage}

-- an archive is accepted with one list of captures
abbrev pub OneIndexed : Type 0
OneIndexed = (types : Kind → Bool) (limits : Limits) (limit : ℕ) (packing : Packing) (name archive : List ℕ)
    (these those : List EntryValue)
    → IsAccepted types limits (form_to limit packing) name archive these
    → IsAccepted types limits (form_to limit packing) name archive those → these ≡ those

-- up to a fault's offset a plain archive is too
abbrev pub OneIndexedTo : Type 0
OneIndexedTo = (types : Kind → Bool) (limits : Limits) (limit : ℕ) (name archive : List ℕ) (fault : CaptureFault)
    (these those : List EntryValue)
    → IsAcceptedTo types limits (plain limit) name fault archive these
    → IsAcceptedTo types limits (plain limit) name fault archive those → these ≡ those

-- the fault is neither damage of an archive nor a line that is too long
abbrev pub IsNoFaultOfArchive : CaptureFault → Type 0
IsNoFaultOfArchive (Archive f) = IsNoDamage f.cause
IsNoFaultOfArchive (LineTooLong offset) = ⊥
IsNoFaultOfArchive (KeyTooLong offset) = ⊤

-- an archive that is accepted whole is refused for want of memory, by its input's failure or for a key that is too
-- long, and no other cause
abbrev pub WholeIsNotRefused : Type 0
WholeIsNotRefused = (types : Kind → Bool) (limits : Limits) (limit : ℕ) (packing : Packing) (name archive : List ℕ)
    (gained : List EntryValue) (fault : CaptureFault)
    → IsAcceptedWhole types limits (form_to limit packing) name archive
    → IsAcceptedTo types limits (form_to limit packing) name fault archive gained → IsNoFaultOfArchive fault

-- an archive that is accepted with captures is accepted whole
abbrev pub AcceptedIsWhole : Type 0
AcceptedIsWhole = (types : Kind → Bool) (limits : Limits) (limit : ℕ) (packing : Packing) (name archive : List ℕ)
    (captures : List EntryValue)
    → IsAccepted types limits (form_to limit packing) name archive captures
    → IsAcceptedWhole types limits (form_to limit packing) name archive

-- one thing stands at an offset of an archive
abbrev pub OneStands : Type 0
OneStands = (limit offset : ℕ) (archive : List ℕ) (this that : Result (List ℕ) IndexFault)
    → StandsIn limit archive offset this → StandsIn limit archive offset that → this ≡ that

-- and something does
abbrev pub SomeStands : Type 0
SomeStands = (limit offset : ℕ) (archive : List ℕ) → (answer : Result (List ℕ) IndexFault)
    × StandsIn limit archive offset answer

-- the records of a plain archive that have these heads
abbrev pub records_of : List ℕ → List HeadView → List Stored
records_of archive heads = map (λ h. plain_record h (drop h.start archive)) heads

-- a plain archive is records that stand one after another, as their heads say
abbrev pub PlainIsWhole : Type 0
PlainIsWhole = (limit : ℕ) (archive : List ℕ) (records : List Stored) → ConsistsOf (plain limit) archive records
    → (heads : List HeadView) × AreRecords limit archive heads × (records ≡ records_of archive heads)

-- or it is damaged at the offset at which they end
abbrev pub PlainIsDamaged : Type 0
PlainIsDamaged = (limit : ℕ) (archive : List ℕ) (records : List Stored) (f : Fault)
    → BreaksAfter (plain limit) archive records f
    → (heads : List HeadView) × IsDamaged limit archive heads f.offset f.cause × (records ≡ records_of archive heads)

-- the archive is accepted with these captures, whole or up to a fault
abbrev pub IsIndexed : (Kind → Bool) → Limits → Form → List ℕ → List ℕ → List EntryValue → Type 0
IsIndexed types limits form name archive captures = IsAccepted types limits form name archive captures
    ⊎ ((fault : CaptureFault) × IsAcceptedTo types limits form name fault archive captures)

-- at the offset of each capture of an archive stands a record of the capture's length, and the capture is that record's
abbrev pub CapturesStand : Type 0
CapturesStand = (types : Kind → Bool) (limits : Limits) (limit : ℕ) (name archive : List ℕ)
    (captures : List EntryValue) (e : EntryValue)
    → IsIndexed types limits (plain limit) name archive captures → IsIn e captures
    → (h : HeadView) × IsRecordOf limit archive e.offset h × (record_length h ≡ e.length)
    × IsCaptureFrom types limits (plain limit) name (plain_record h (drop h.start archive)) (Some e)

-- an archive that has grown, and is accepted whole as it was before, has its captures, and further ones behind them
abbrev pub GrownKeepsCaptures : Type 0
GrownKeepsCaptures = (types : Kind → Bool) (limits : Limits) (limit : ℕ) (packing : Packing) (name archive more : List ℕ)
    (captures grown : List EntryValue)
    → IsAccepted types limits (form_to limit packing) name archive captures
    → IsAccepted types limits (form_to limit packing) name (archive ++ more) grown
    → (added : List EntryValue) × (grown ≡ captures ++ added)

-- an archive that is accepted whole is so under higher limits of lines and heads
abbrev pub WholeStays : Type 0
WholeStays = (types : Kind → Bool) (limits : Limits) (line low high : ℕ) → limits.line ≤ line → low ≤ high
    → (name archive : List ℕ)
    → IsAcceptedWhole types limits (plain low) name archive
    → IsAcceptedWhole types (record limits { line = line }) (plain high) name archive

-- and it has the captures that it had
abbrev pub CapturesStay : Type 0
CapturesStay = (types : Kind → Bool) (limits : Limits) (line low high : ℕ) → limits.line ≤ line → low ≤ high
    → (name archive : List ℕ) (captures : List EntryValue)
    → IsAccepted types limits (plain low) name archive captures
    → IsAccepted types (record limits { line = line }) (plain high) name archive captures

-- captures by the heads of records have the archive's name
abbrev pub HaveArchiveName : Type 0
HaveArchiveName = (types : Kind → Bool) (limits : Limits) (limit : ℕ) (packing : Packing) (name : List ℕ) (end : ℕ)
    (captures : List EntryValue)
    → AreByHeads types limits (form_to limit packing) name end captures → AreNamed name captures
