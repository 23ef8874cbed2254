-- The collection of several indexes.
use Rattle.std.specs.List.{AllZip}
use Rattle.std.specs.Prelude.{◌≡◌, ℕ, List, flat_map, map, Option, Some}
use Rattle.cdxj_core.specs.declared.limit.TheConstants.{LINE_LIMIT}
use Rattle.cdxj_places.specs.Places.{place_cmp}
use Rattle.cdxj_places.specs.Rising.{rising}
use Rattle.cdxj_core.specs.Indexes.{IsIndex}
use Rattle.cdxj_core.specs.Members.{Member, member_place}
use Rattle.source_core.specs.declared.source.Source.{Ghosts}

-- each text is told, and is this one
abbrev pub Known : List (Option (List ℕ)) → List (List ℕ) → Type 0
Known = AllZip (λ told text. told ≡ Some text)

-- the bytes of the sources, if they are known, and their sizes are what they were
abbrev pub KeepsSources : {S : Type 0} → Ghosts S → List S → List S → Type 0
KeepsSources device old new =
    (map device.text new ≡ map device.text old) × (map device.extent new ≡ map device.extent old)

-- a fact of the sources' texts, if all are known
abbrev pub OverTexts : List (Option (List ℕ)) → (List (List ℕ) → Type 0) → Type 0
OverTexts told P = (texts : List (List ℕ)) → Known told texts → P texts

-- a fact of the sources' texts and of their lines, if all texts are known, and are indexes
abbrev pub OverIndexes : List (Option (List ℕ)) → (List (List ℕ) → List (List Member) → Type 0) → Type 0
OverIndexes told P =
    (texts : List (List ℕ)) → (indexes : List (List Member)) → Known told texts
    → AllZip (IsIndex LINE_LIMIT) texts indexes → P texts indexes

-- all lines, in the order of indexes and then of lines
abbrev pub all_lines : List (List Member) → List Member
all_lines indexes = flat_map (λ members. members) indexes

-- in the order of places, only the first line at each place
abbrev pub in_places : List Member → List Member
in_places members = rising member_place place_cmp members

-- all lines of the indexes, in the order of places
abbrev pub collection : List (List Member) → List Member
collection indexes = in_places (all_lines indexes)

-- the texts are indexes
abbrev pub AreIndexes : List (List ℕ) → Type 0
AreIndexes texts = (indexes : List (List Member)) × AllZip (IsIndex LINE_LIMIT) texts indexes
