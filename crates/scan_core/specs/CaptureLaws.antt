-- Laws of the captures that a scan goes over.
use Rattle.std.specs.Prelude.{◌≡◌, ℕ, Bool, List, length, Option, Result}
use Rattle.std.specs.List.{AllByRecursion, AllZip}
use Rattle.warc_core.specs.Kind.{Kind}
use Rattle.cdxj_core.specs.declared.limit.TheConstants.{LINE_LIMIT}
use Rattle.cdxj_core.specs.Entries.{EntryValue, HasLine}
use Rattle.archives.specs.State.{ToldArchive}
use Rattle.index_core.specs.Indexing.{AreNamed, HaveOwnPlaces}
use Rattle.scan_core.specs.declared.fault.ScanFault.{ScanFault}
use Rattle.scan_core.specs.Archives.{AreIndexed}
use Rattle.scan_core.specs.Captures.{all_captures, captured_lines}
use Rattle.scan_core.specs.Scanning.{Scanned}

-- each capture has its archive's name
abbrev pub CapturesAreNamed : Type 0
CapturesAreNamed = (types : Kind → Bool) (names : List (List ℕ)) (inputs : List ToldArchive)
    (captures : List (List EntryValue)) → AreIndexed types names inputs captures → AllZip AreNamed names captures

-- and a line
abbrev pub CapturesHaveLines : Type 0
CapturesHaveLines = (types : Kind → Bool) (names : List (List ℕ)) (inputs : List ToldArchive)
    (captures : List (List EntryValue)) → AreIndexed types names inputs captures
    → AllByRecursion (HasLine LINE_LIMIT) (all_captures captures)

-- and a place of its own among all of them
abbrev pub CapturesHavePlaces : Type 0
CapturesHavePlaces = (types : Kind → Bool) (names : List (List ℕ)) (inputs : List ToldArchive)
    (captures : List (List EntryValue)) → AreIndexed types names inputs captures → HaveOwnPlaces (all_captures captures)

-- so a scan goes over a line for each, and none is left out as one that was there before
abbrev pub NoneIsLeftOut : Type 0
NoneIsLeftOut = (types : Kind → Bool) (names : List (List ℕ)) (inputs : List ToldArchive) (sizes text : List ℕ)
    (result : Result ℕ ScanFault) (old new : Option (List ℕ))
    → (scanned : Scanned types names inputs sizes text result old new)
    → length (captured_lines scanned.captures) ≡ length (all_captures scanned.captures)
