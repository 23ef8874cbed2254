-- Laws of why a scan is refused.
use Rattle.std.specs.Prelude.{◌≡◌, ℕ, Bool, List, false, map}
use Rattle.warc_core.specs.Kind.{Kind}
use Rattle.archives.specs.State.{ToldArchive}
use Rattle.index_core.specs.declared.fault.IndexFault.{IndexFault}
use Rattle.index_core.specs.declared.fault.IndexFault.TheVariants as index
use Rattle.index_core.specs.Laws.{IsNoFaultOfArchive}
use Rattle.merge_core.specs.Collections.{Known}
use Rattle.query_core.specs.declared.fault.AnswerFault.TheVariants as answer
use Rattle.query_core.specs.Paging.{are_sizes}
use Rattle.scan_core.specs.declared.fault.ScanFault.{ScanFault}
use Rattle.scan_core.specs.declared.fault.ScanFault.TheVariants.{Answer}
use Rattle.scan_core.specs.Archives.{IsFaultOfArchive, IsFirstFault, IsNameFault, IsNewName}
use Rattle.scan_core.specs.Scanning.{IsBeforeWriting, IsScanFault}

-- where the sizes are bad, a scan that is refused before it writes is refused for them
abbrev pub BadSizesAreFirst : Type 0
BadSizesAreFirst = (types : Kind → Bool) (names : List (List ℕ)) (inputs : List ToldArchive) (sizes text : List ℕ)
    (fault : ScanFault) → are_sizes sizes ≡ false → IsScanFault types names inputs sizes text fault
    → IsBeforeWriting fault → fault ≡ Answer answer.BadSizes

-- where an archive's name is bad or an earlier one, the archive is refused for it, whatever it holds
abbrev pub BadNamesAreFirst : Type 0
BadNamesAreFirst = (types : Kind → Bool) (earlier : List (List ℕ)) (name : List ℕ) (input : ToldArchive)
    (fault : IndexFault) → (IsNewName earlier name → ⊥) → IsFaultOfArchive types earlier name input fault
    → IsNameFault fault

-- a name that is bad is never refused as an earlier one's
abbrev pub NameFaultIsOne : Type 0
NameFaultIsOne = (types : Kind → Bool) (earlier : List (List ℕ)) (name : List ℕ) (input : ToldArchive)
    → IsFaultOfArchive types earlier name input index.BadName
    → IsFaultOfArchive types earlier name input index.DuplicateName → ⊥

-- the fault lies in the archive or its name, and not in memory, a device, or a key that is too long
abbrev pub IsNoFailure : IndexFault → Type 0
IsNoFailure (index.Capture fault) = IsNoFaultOfArchive fault → ⊥
IsNoFailure fault = IsNameFault fault

-- of known archives, one is the first that is at fault
abbrev pub FirstFaultIsOne : Type 0
FirstFaultIsOne = (types : Kind → Bool) (names archives : List (List ℕ)) (inputs : List ToldArchive) (i j : ℕ)
    (this that : IndexFault) → Known (map (λ input. input.bytes) inputs) archives
    → IsFirstFault types names inputs i this → IsNoFailure this
    → IsFirstFault types names inputs j that → IsNoFailure that → i ≡ j
