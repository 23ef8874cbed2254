-- What laws of members say.
use Rattle.std.specs.Prelude.{◌≡◌, ◌⊎◌, ⊤, true, ℕ, List, [], ◌∷◌, ◌++◌, Ok, Err}
use Rattle.deflate_bits.specs.declared.fault.DeflateFault.{DeflateFault}
use Rattle.gzip_members.specs.declared.fault.MemberFault.{MemberFault}
use Rattle.gzip_members.specs.Members.{member_in}
use Rattle.gzip_members.specs.Starts.{begins_member}

-- these bytes are a member of this text, and no more
pub record IsMember (bytes text : List ℕ) : Type 0 where
  pub begins : begins_member bytes ≡ Ok true
  pub reads : member_in bytes ≡ Ok (text, [])

-- a member of this text begins these bytes, and these are behind it
pub record Begins (bytes text behind : List ℕ) : Type 0 where
  pub begins : begins_member bytes ≡ Ok true
  pub reads : member_in bytes ≡ Ok (text, behind)

-- members one behind another
abbrev pub in_a_row : List (List ℕ) → List ℕ
in_a_row [] = []
in_a_row (member ∷ members) = member ++ in_a_row members

-- each of these is a member
abbrev pub AreMembers : List (List ℕ) → Type 0
AreMembers [] = ⊤
AreMembers (member ∷ members) = ((text : List ℕ) × IsMember member text) × AreMembers members

-- no member begins these bytes: there are none, or others, or what begins is at fault
abbrev pub BeginsNone : List ℕ → Type 0
BeginsNone bytes = (bytes ≡ []) ⊎ (((fault : MemberFault) × (begins_member bytes ≡ Err fault))
    ⊎ ((fault : DeflateFault) × (begins_member bytes ≡ Ok true) × (member_in bytes ≡ Err fault)))

-- A file is these members, and what is behind them, where no more begins.
pub record IsOfMembers (file : List ℕ) (members : List (List ℕ)) (rest : List ℕ) : Type 0 where
  pub spelled : file ≡ in_a_row members ++ rest
  pub whole : AreMembers members
  pub none : BeginsNone rest
