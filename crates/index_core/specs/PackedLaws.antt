-- Laws of compressed archives whose members hold the records of a plain one.
use Rattle.std.specs.Prelude.{◌≡◌, ℕ, ◌+◌, ◌<◌, ◌≤◌, ◌^◌, ⊤, Bool, List, [], ◌∷◌, length, take, drop, map}
use Rattle.std.specs.List.{AllByRecursion}
use Rattle.gzip_members.specs.Laws.{IsMember, in_a_row}
use Rattle.warc_core.specs.HeadView.{HeadView}
use Rattle.warc_core.specs.Kind.{Kind}
use Rattle.cdxj_core.specs.Entries.{EntryValue, line_text}
use Rattle.capture_core.specs.declared.place.Place.{Place}
use Rattle.capture_core.specs.CaptureAnswer.{Limits}
use Rattle.archives.specs.Form.{ConsistsOf, Stored, plain}
use Rattle.archives.specs.Packed.{packed}
use Rattle.index_core.specs.Accepted.{IsAccepted}

-- the bytes at a place of an archive
abbrev pub bytes_at : List ℕ → Place → List ℕ
bytes_at archive place = take place.length (drop place.offset archive)

-- these are members of the texts of these records, one of each
abbrev pub ArePacked : List ℕ → List Stored → List (List ℕ) → Type 0
ArePacked archive [] [] = ⊤
ArePacked archive [] (member ∷ members) = ⊥
ArePacked archive (r ∷ records) [] = ⊥
ArePacked archive (r ∷ records) (member ∷ members) =
    IsMember member (bytes_at archive r.place) × ArePacked archive records members

-- a head as it begins a text of its own
abbrev pub from_start : HeadView → HeadView
from_start h = record h { start = 0 }

-- a record in a member of this length at this offset
abbrev pub in_member : ℕ → ℕ → Stored → Stored
in_member offset len r = record {
  head = from_start r.head;
  block = r.block;
  place = record { offset = offset; length = len };
}

-- the records in their members, of which the first stands at this offset
abbrev pub in_members : ℕ → List Stored → List (List ℕ) → List Stored
in_members offset [] members = []
in_members offset (r ∷ records) [] = []
in_members offset (r ∷ records) (member ∷ members) =
    in_member offset (length member) r ∷ in_members (offset + length member) records members

-- a compressed archive of a member of each record of a plain one consists of these records
abbrev pub MembersAreRecords : Type 0
MembersAreRecords = (limit : ℕ) (archive : List ℕ) (records : List Stored) (members : List (List ℕ))
    → ConsistsOf (plain limit) archive records → ArePacked archive records members
    → ConsistsOf (packed limit) (in_a_row members) (in_members 0 records members)

-- a capture at another place
abbrev pub at_place : Place → EntryValue → EntryValue
at_place place e = record e { offset = place.offset; length = place.length }

-- what a capture says but for its place
abbrev pub without_place : EntryValue → EntryValue
without_place e = at_place (record { offset = 0; length = 0 }) e

-- it has the captures of the plain one, but for their offsets and lengths
abbrev pub MembersHaveCaptures : Type 0
MembersHaveCaptures = (types : Kind → Bool) (limits : Limits) (limit : ℕ) (name archive : List ℕ)
    (records : List Stored) (members : List (List ℕ)) (captures others : List EntryValue)
    → ConsistsOf (plain limit) archive records → ArePacked archive records members
    → IsAccepted types limits (plain limit) name archive captures
    → IsAccepted types limits (packed limit) name (in_a_row members) others
    → map without_place others ≡ map without_place captures

-- the line of a capture isn't too long, wherever its record stands
abbrev pub FitsAnywhere : Limits → EntryValue → Type 0
FitsAnywhere limits e = (place : Place) → place.offset + place.length < 2 ^ 63
    → length (line_text (at_place place e)) ≤ limits.line

-- it is accepted, unless a line becomes too long by the digits of its place
abbrev pub MembersAreAccepted : Type 0
MembersAreAccepted = (types : Kind → Bool) (limits : Limits) (limit : ℕ) (name archive : List ℕ)
    (records : List Stored) (members : List (List ℕ)) (captures : List EntryValue)
    → ConsistsOf (plain limit) archive records → ArePacked archive records members
    → length (in_a_row members) < 2 ^ 63
    → IsAccepted types limits (plain limit) name archive captures → AllByRecursion (FitsAnywhere limits) captures
    → (others : List EntryValue) × IsAccepted types limits (packed limit) name (in_a_row members) others
