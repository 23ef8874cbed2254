-- Laws of the definitions that the contracts cite.
use Rattle.std.specs.List.{AllZip}
use Rattle.std.specs.Prelude.{◌≡◌, ℕ, ◌-◌, ◌^◌, ◌<◌, ⊤, Bool, List, [], ◌∷◌, ◌++◌, length, map, not, Option, Some, Ok}
use Rattle.std.specs.Prelude.{Err, Result, drop, false, suc}
use Rattle.std.specs.Str.{bytes_eq}
use Rattle.std.specs.List.{AllByRecursion}
use Rattle.warc_core.specs.Kind.{Kind}
use Rattle.warc_core.specs.declared.fault.Cause.TheVariants as causes
use Rattle.warc_core.specs.declared.fault.Fault.{Fault}
use Rattle.warc_core.specs.declared.next.TheConstants.{HEAD_LIMIT}
use Rattle.capture_core.specs.declared.fault.CaptureFault.TheVariants as capture
use Rattle.capture_core.specs.CaptureAnswer.{Limits, usual_limits}
use Rattle.index_core.specs.declared.fault.IndexFault.{IndexFault}
use Rattle.index_core.specs.declared.fault.IndexFault.TheVariants as index
use Rattle.archives.specs.Form.{plain}
use Rattle.archives.specs.Packed.{packed}
use Rattle.archives.specs.Packing.{Packed, form_of}
use Rattle.archives.specs.State.{ToldArchive}
use Rattle.index_core.specs.Accepted.{IsAcceptedWhole}
use Rattle.index_core.specs.FetchingIn.{FetchesIn, IsOfLength}
use Rattle.index_core.specs.FetchingLaws.{IsFetched, WroteRecord}
use Rattle.index_core.specs.Laws.{IsIndexed}
use Rattle.index_core.specs.PackedFetching.{StandsInMember}
use Rattle.cdxj_places.specs.Rising.{IsIn}
use Rattle.devices.specs.Device.{Grows}
use Rattle.cdxj_core.specs.Entries.{EntryValue}
use Rattle.cdxj_core.specs.Members.{Member, entry_member}
use Rattle.index_core.specs.Indexing.{AreNamed, index_text}
use Rattle.merge_core.specs.Collections.{Known, collection}
use Rattle.merge_core.specs.Written.{lines_text}
use Rattle.query_text.specs.declared.fault.QueryFault.{QueryFault}
use Rattle.query_text.specs.declared.fault.QueryFault.TheVariants as refusal
use Rattle.query_text.specs.Queries.{QueryValue}
use Rattle.query_core.specs.MergeLaws.{of_files}
use Rattle.query_core.specs.QueryPages.{selected}
use Rattle.query_core.specs.declared.fault.AnswerFault.{AnswerFault}
use Rattle.query_core.specs.declared.fault.AnswerFault.TheVariants as answer
use Rattle.scan_core.specs.declared.fault.ScanFault.{ScanFault}
use Rattle.scan_core.specs.declared.fault.ScanFault.TheVariants.{Query, Archive, Answer}
use Rattle.scan_core.specs.Archives.{AreNewNames, index_members}
use Rattle.scan_core.specs.Captures.{all_captures, captured_lines}
use Rattle.scan_core.specs.Failures.{CountsInputs, CountsOutput}
use Rattle.scan_core.specs.Scanning.{IsAsked, IsBeforeWriting, IsScanFault, LeavesUnread, Scanned}

-- the bytes of an archive are told, and it is accepted whole under this name
pub record IsToldWhole (types : Kind → Bool) (name : List ℕ) (input : ToldArchive) : Type 0 where
  pub archive : List ℕ
  pub told : input.bytes ≡ Some archive
  pub whole : IsAcceptedWhole types usual_limits (form_of input.packing) name archive

-- nothing that is asked of a scan is at fault: the archives are accepted whole under names of their own, the sizes are
-- given and positive, and the text means a query
pub record IsScannable (types : Kind → Bool) (names : List (List ℕ)) (inputs : List ToldArchive) (sizes text : List ℕ) :
    Type 0 where
  pub query : QueryValue
  pub asked : IsAsked sizes text (length names) query
  pub named : AreNewNames [] names
  pub whole : AllZip (IsToldWhole types) names inputs

-- a fault for want of memory, or for a key that the URL parser has no room for
abbrev pub IsWantOfRoom : ScanFault → Type 0
IsWantOfRoom (Query refusal.Memory) = ⊤
IsWantOfRoom (Archive i index.Memory) = ⊤
IsWantOfRoom (Archive i (index.Capture (capture.Archive fault))) = fault.cause ≡ causes.Memory
IsWantOfRoom (Archive i (index.Capture (capture.KeyTooLong offset))) = ⊤
IsWantOfRoom (Answer answer.Memory) = ⊤
IsWantOfRoom other = ⊥

-- damage is want of room only where memory was refused, and so is a query's refusal and the fault of an answer
abbrev pub WantIsNoDamage : Type 0
WantIsNoDamage = (i : ℕ) (fault : Fault) → IsWantOfRoom (Archive i (index.Capture (capture.Archive fault)))
    → fault.cause ≡ causes.Memory

abbrev pub WantIsNoRefusal : Type 0
WantIsNoRefusal = (fault : QueryFault) → IsWantOfRoom (Query fault) → fault ≡ refusal.Memory

abbrev pub WantIsNoFailure : Type 0
WantIsNoFailure = (fault : AnswerFault) → IsWantOfRoom (Answer fault) → fault ≡ answer.Memory

-- a count of failures that isn't at its end, and so rises with each failure
abbrev pub MayRise : ℕ → Type 0
MayRise count = count < 2 ^ 64 - 1

-- the index of several archives is, byte for byte, the merge of the archives' indexes
abbrev pub IndexIsMerge : Type 0
IndexIsMerge = (archives : List (List EntryValue))
    → index_text (all_captures archives) ≡ lines_text (collection (map index_members archives))

-- the lines of a scan's pages are those of the index of all its archives
abbrev pub ScanIsOverIndex : Type 0
ScanIsOverIndex = (archives : List (List EntryValue))
    → captured_lines archives ≡ collection (index_members (all_captures archives) ∷ [])

-- no capture has this file name
abbrev pub AreOfOthers : List ℕ → List EntryValue → Type 0
AreOfOthers name captures = AllByRecursion (λ e. bytes_eq name e.filename ≡ false) captures

-- the lines of the index of several archives without those of an archive's file name are those of the others' index
abbrev pub RemovedIsDropped : Type 0
RemovedIsDropped = (name : List ℕ) (before : List (List EntryValue)) (removed : List EntryValue)
    (after : List (List EntryValue)) → AreNamed name removed → AreOfOthers name (all_captures (before ++ after))
    → of_files (λ file. not (bytes_eq name file)) (captured_lines (before ++ removed ∷ after))
    ≡ captured_lines (before ++ after)

-- A line that a query selects of the index of an archive is that of a capture, whose record both forms of `get` write.
abbrev pub SelectedAreFetched : Type 0
SelectedAreFetched = (types : Kind → Bool) (limits : Limits) (limit : ℕ) (name archive : List ℕ)
    (captures : List EntryValue) (q : QueryValue) (m : Member)
    → IsIndexed types limits (plain limit) name archive captures
    → IsIn m (selected q (collection (index_members captures ∷ [])))
    → (e : EntryValue) × (m ≡ entry_member e) × IsFetched limit archive e

-- So of a compressed archive: the record stands in a member that is as long as the line says.
abbrev pub PackedSelectedAreFetched : Type 0
PackedSelectedAreFetched = (types : Kind → Bool) (limits : Limits) (name archive : List ℕ)
    (captures : List EntryValue) (q : QueryValue) (m : Member)
    → IsIndexed types limits (packed HEAD_LIMIT) name archive captures
    → IsIn m (selected q (collection (index_members captures ∷ [])))
    → (e : EntryValue) × (m ≡ entry_member e) × (text : List ℕ)
    × StandsInMember types limits HEAD_LIMIT name archive e text
    × ((asked : Option ℕ) (result : Result ℕ IndexFault) (before after : Option (List ℕ))
    → IsOfLength asked e.length → FetchesIn Packed asked e.offset (Some archive) result before after
    → WroteRecord text result before after)

-- where nothing is at fault and no device failed, a scan is refused only for want of memory
abbrev pub OnlyMemoryIsWanting : Type 0
OnlyMemoryIsWanting = (types : Kind → Bool) (names : List (List ℕ)) (inputs : List ToldArchive)
    (sizes text : List ℕ) (fault : ScanFault) (counts : List ℕ) (count : ℕ)
    → IsScannable types names inputs sizes text
    → IsScanFault types names inputs sizes text fault
    → AllByRecursion MayRise counts → CountsInputs {A = Unit {0}} (Err fault) counts counts
    → MayRise count → CountsOutput {A = Unit {0}} (Err fault) count count → IsWantOfRoom fault

-- over archives and an output whose bytes are known, a scan writes one text, and returns one number of pages
abbrev pub ScanIsOne : Type 0
ScanIsOne = (types : Kind → Bool) (names archives : List (List ℕ)) (inputs : List ToldArchive)
    (sizes text old : List ℕ) (new new' : Option (List ℕ)) (number number' : ℕ)
    → Known (map (λ input. input.bytes) inputs) archives
    → Scanned types names inputs sizes text (Ok number) (Some old) new
    → Scanned types names inputs sizes text (Ok number') (Some old) new' → (new ≡ new') × (number ≡ number')

-- after a fault a front of what a scan without one writes stands written
abbrev pub ScanHasFront : Type 0
ScanHasFront = (types : Kind → Bool) (names archives : List (List ℕ)) (inputs : List ToldArchive)
    (sizes text old : List ℕ) (part whole : Option (List ℕ)) (fault : ScanFault) (number : ℕ)
    → Known (map (λ input. input.bytes) inputs) archives
    → Scanned types names inputs sizes text (Err fault) (Some old) part
    → Scanned types names inputs sizes text (Ok number) (Some old) whole → Grows part whole

-- what a scan answers decides the counts of failures of its inputs and of the output
abbrev pub ScanCountsAreOne : Type 0
ScanCountsAreOne = (result : Result ℕ ScanFault) (inputs these those : List ℕ) (out this that : ℕ)
    → CountsInputs result inputs these → CountsInputs result inputs those
    → CountsOutput result out this → CountsOutput result out that → (these ≡ those) × (this ≡ that)

-- nothing of the archives is at fault
abbrev pub IsOfNoArchive : ScanFault → Type 0
IsOfNoArchive (Archive i fault) = ⊥
IsOfNoArchive fault = IsBeforeWriting fault

-- no archive was read where what is asked is refused
abbrev pub RefusedReadsNothing : Type 0
RefusedReadsNothing = (states new : List ℕ) (fault : ScanFault) → IsOfNoArchive fault → LeavesUnread states new fault
    → new ≡ states

-- no archive behind the one at fault was read
abbrev pub LaterAreUnread : Type 0
LaterAreUnread = (states new : List ℕ) (i : ℕ) (fault : IndexFault) → LeavesUnread states new (Archive i fault)
    → drop (suc i) new ≡ drop (suc i) states
