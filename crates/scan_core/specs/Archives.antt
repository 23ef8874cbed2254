-- The archives of a scan: with which captures they are accepted, and why one isn't.
use Rattle.std.specs.Prelude.{◌≡◌, ℕ, ◌<◌, ⊤, Bool, List, [], ◌∷◌, ◌++◌, length, map, take, get_or, false, true}
use Rattle.std.specs.Prelude.{None, IfSome}
use Rattle.std.specs.List.{AllByRecursion, AllZip}
use Rattle.warc_core.specs.Kind.{Kind}
use Rattle.cdxj_core.specs.declared.limit.TheConstants.{LINE_LIMIT}
use Rattle.cdxj_core.specs.Entries.{EntryValue, HasLine}
use Rattle.cdxj_core.specs.Indexes.{IsIndex}
use Rattle.cdxj_core.specs.Members.{Member, entry_member}
use Rattle.capture_core.specs.CaptureAnswer.{usual_limits}
use Rattle.index_core.specs.declared.fault.IndexFault.{IndexFault}
use Rattle.index_core.specs.declared.fault.IndexFault.TheVariants as index
use Rattle.archives.specs.Packing.{Plain, form_of}
use Rattle.archives.specs.State.{ToldArchive}
use Rattle.index_core.specs.Accepted.{IsAccepted, IsAcceptedTo}
use Rattle.index_core.specs.Indexing.{IsName, AreNamed, is_among, in_places, HaveOwnPlaces}

-- a name that an archive may have, and none of the earlier ones
pub record IsNewName (earlier : List (List ℕ)) (name : List ℕ) : Type 0 where
  pub good : IsName name
  pub unused : is_among earlier name ≡ false

-- each of these names may stand after the earlier ones and those before it
abbrev pub AreNewNames : List (List ℕ) → List (List ℕ) → Type 0
AreNewNames earlier [] = ⊤
AreNewNames earlier (name ∷ names) = IsNewName earlier name × AreNewNames (earlier ++ name ∷ []) names

-- These captures have the archive's name. What the input holds, where that is known, is accepted whole with them, as
-- the captures of its records of these types.
abbrev pub AreCapturesOf : (Kind → Bool) → List ℕ → ToldArchive → List EntryValue → Type 0
AreCapturesOf types name input captures =
    AreNamed name captures
    × IfSome input.bytes (λ archive. IsAccepted types usual_limits (form_of input.packing) name archive captures)

-- the same of each archive
abbrev pub AreCapturesOfEach : (Kind → Bool) → List (List ℕ) → List ToldArchive → List (List EntryValue) → Type 0
AreCapturesOfEach types [] [] [] = ⊤
AreCapturesOfEach types (name ∷ names) (input ∷ inputs) (captures ∷ others) = AreCapturesOf types name input captures
    × AreCapturesOfEach types names inputs others
AreCapturesOfEach types names inputs captures = ⊥

-- an archive's captures have lines, each at a place of its own
pub record HaveLines (captures : List EntryValue) : Type 0 where
  pub lines : AllByRecursion (HasLine LINE_LIMIT) captures
  pub places : HaveOwnPlaces captures

-- the lines of an archive's captures, as its index has them
abbrev pub index_members : List EntryValue → List Member
index_members captures = map entry_member (in_places captures)

-- the archives are accepted under names of their own, with these captures
pub record AreIndexed (types : Kind → Bool) (names : List (List ℕ)) (inputs : List ToldArchive)
    (captures : List (List EntryValue)) : Type 0 where
  pub named : AreNewNames [] names
  pub accepted : AreCapturesOfEach types names inputs captures
  pub lines : AllByRecursion HaveLines captures

-- an archive under a new name is accepted whole, and this is the index of its captures
pub record HasIndex (types : Kind → Bool) (earlier : List (List ℕ)) (name : List ℕ) (input : ToldArchive)
    (index : List ℕ) : Type 0 where
  pub is_new : IsNewName earlier name
  pub captures : List EntryValue
  pub accepted : AreCapturesOf types name input captures
  pub lines : HaveLines captures
  pub is_index : IsIndex LINE_LIMIT index (index_members captures)

-- the archives are accepted, and these are the indexes of their captures
pub record HaveIndexes (types : Kind → Bool) (names : List (List ℕ)) (inputs : List ToldArchive)
    (indexes : List (List ℕ)) : Type 0 where
  pub captures : List (List EntryValue)
  pub indexed : AreIndexed types names inputs captures
  pub are_indexes : AllZip (IsIndex LINE_LIMIT) indexes (map index_members captures)

-- why an archive isn't indexed: its name is bad, or an earlier one; else its captures end with this fault, or memory is
-- refused
abbrev pub IsFaultOfArchive : (Kind → Bool) → List (List ℕ) → List ℕ → ToldArchive → IndexFault → Type 0
IsFaultOfArchive types earlier name input index.BadName = ¬ (IsName name)
IsFaultOfArchive types earlier name input index.DuplicateName = IsName name × (is_among earlier name ≡ true)
IsFaultOfArchive types earlier name input (index.Capture fault) =
    IsNewName earlier name
    × IfSome input.bytes (λ archive. (captures : List EntryValue)
    × IsAcceptedTo types usual_limits (form_of input.packing) name fault archive captures)
IsFaultOfArchive types earlier name input index.Memory = IsNewName earlier name
IsFaultOfArchive types earlier name input other = ⊥

-- an archive of which nothing is told
abbrev pub nothing_told : ToldArchive
nothing_told = record { packing = Plain; bytes = None }

-- the archive with this number is the first that isn't indexed
pub record IsFirstFault (types : Kind → Bool) (names : List (List ℕ)) (inputs : List ToldArchive) (i : ℕ)
    (fault : IndexFault) : Type 0 where
  pub inside : i < length names
  pub captures : List (List EntryValue)
  pub before : AreIndexed types (take i names) (take i inputs) captures
  pub refused : IsFaultOfArchive types (take i names) (get_or names i []) (get_or inputs i nothing_told) fault

-- the archive is refused by its name, before it is read
abbrev pub IsNameFault : IndexFault → Type 0
IsNameFault index.BadName = ⊤
IsNameFault index.DuplicateName = ⊤
IsNameFault other = ⊥
