-- A compressed archive as its members.
use Rattle.std.specs.Prelude.{◌≡◌, ℕ, ◌+◌, List, [], ◌∷◌, ◌++◌, length, None, Some, Ok}
use Rattle.gzip_members.specs.Laws.{IsOfMembers}
use Rattle.archives.specs.Form.{ConsistsOf, Stored}
use Rattle.archives.specs.Packed.{Held, member_holds, packed, packed_record}

-- the record that a member at an offset holds; one without text holds none
abbrev pub record_in : ℕ → List ℕ → Held → List Stored
record_in offset member None = []
record_in offset member (Some (h, text)) = packed_record offset member h text [] ∷ []

-- each of these members, of which the first stands at the offset, has no text or is one record
abbrev pub HoldRecords : ℕ → ℕ → List (List ℕ) → List Stored → Type 0
HoldRecords limit offset [] records = records ≡ []
HoldRecords limit offset (member ∷ members) records = (held : Held) × (others : List Stored)
    × (member_holds limit member ≡ Ok (held, [])) × (records ≡ record_in offset member held ++ others)
    × HoldRecords limit (offset + length member) members others

-- a compressed archive is members, each of which has no text or is one record
abbrev pub PackedIsMembers : Type 0
PackedIsMembers = (limit : ℕ) (archive : List ℕ) (records : List Stored) → ConsistsOf (packed limit) archive records
    → (members : List (List ℕ)) × IsOfMembers archive members [] × HoldRecords limit 0 members records

-- and such members are a compressed archive
abbrev pub MembersArePacked : Type 0
MembersArePacked = (limit : ℕ) (archive : List ℕ) (records : List Stored) (members : List (List ℕ))
    → IsOfMembers archive members [] → HoldRecords limit 0 members records
    → ConsistsOf (packed limit) archive records
