-- What an indexer holds, and the index that it writes.
use Rattle.std.specs.Prelude.{◌≡◌, ℕ, ◌<◌, ◌≤◌, Bool, true, List, [], ◌∷◌, ⊤, length, flat_map}
use Rattle.std.specs.List.{AllByRecursion, list_any}
use Rattle.std.specs.Str.{bytes_eq}
use Rattle.std.specs.declared.cmp.Ordering.TheVariants.{Equal}
use Rattle.capture_core.specs.declared.types.Types.{Types}
use Rattle.cdxj_core.specs.Entries.{EntryValue, HasLine, entry_place, line_text}
use Rattle.cdxj_places.specs.Places.{place_cmp}
use Rattle.cdxj_places.specs.Rising.{rising}
use Rattle.index_core.specs.declared.fault.IndexFault.{IndexFault}
use Rattle.index_core.specs.declared.fault.IndexFault.TheVariants as faults

-- the types of records that are indexed, the names of the archives that were added, and their captures, in the order of
-- adding
pub record Held : Type 0 where
  pub types : Types
  pub names : List (List ℕ)
  pub captures : List EntryValue

-- a name that an archive may have
abbrev pub IsName : List ℕ → Type 0
IsName name = (0 < length name) × (length name ≤ 255)

-- the name is among these
abbrev pub is_among : List (List ℕ) → List ℕ → Bool
is_among names name = list_any (bytes_eq name) names

-- the captures in the order of places
abbrev pub in_places : List EntryValue → List EntryValue
in_places captures = rising entry_place place_cmp captures

-- the lines of entries
abbrev pub entries_text : List EntryValue → List ℕ
entries_text entries = flat_map line_text entries

-- the index of these captures: their lines, in the order of places
abbrev pub index_text : List EntryValue → List ℕ
index_text captures = entries_text (in_places captures)

-- no two captures have one place
abbrev pub HaveOwnPlaces : List EntryValue → Type 0
HaveOwnPlaces [] = Unit {0}
HaveOwnPlaces (e ∷ captures) = AllByRecursion (λ other. place_cmp (entry_place e) (entry_place other) ≡ Equal → ⊥)
    captures × HaveOwnPlaces captures

-- each capture has this file name
abbrev pub AreNamed : List ℕ → List EntryValue → Type 0
AreNamed name captures = AllByRecursion (λ e. e.filename ≡ name) captures

-- each capture of that name stands before the offset
abbrev pub StandBefore : List ℕ → ℕ → List EntryValue → Type 0
StandBefore name offset captures = AllByRecursion (λ e. e.filename ≡ name → e.offset < offset) captures

-- What always holds of the captures of archives of these names.
pub record AreSound (limit : ℕ) (names : List (List ℕ)) (captures : List EntryValue) : Type 0 where
  pub places : HaveOwnPlaces captures
  pub named : AllByRecursion (λ e. is_among names e.filename ≡ true) captures
  pub lines : AllByRecursion (HasLine limit) captures

-- an index isn't written for want of memory, or where the output failed
abbrev pub IsWriteFault : IndexFault → Type 0
IsWriteFault faults.Memory = ⊤
IsWriteFault faults.Write = ⊤
IsWriteFault other = ⊥
