-- The texts of a line's members.
use Rattle.std.specs.Prelude.{ℕ, ◌==◌, List, length, codes, if◌then◌else◌}
use Rattle.std.specs.Borrow.{Bor}
use Rattle.cdxj_objects.specs.declared.members.Members.{Members}
use Rattle.cdxj_objects.specs.ObjectMembers.{each, map_members, names, zip_members}

abbrev pub TextsValue : Type 0
TextsValue = Members (List ℕ)

-- what contracts see of texts that are borrowed
abbrev pub borrowed_view : Members (Bor (List ℕ)) → TextsValue
borrowed_view t = map_members (λ s. s.now) t

-- the members of these texts, in the order of a written line
abbrev pub text_members : TextsValue → List (List ℕ × List ℕ)
text_members t = each (zip_members (λ name text. (name, text)) names t)

-- the text of a value that is missing
abbrev pub missing : List ℕ
missing = codes "-"

-- a text, or `-` for an empty one
abbrev pub or_missing : List ℕ → List ℕ
or_missing s = if length s == 0 then missing else s
