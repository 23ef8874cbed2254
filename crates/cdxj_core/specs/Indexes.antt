-- Indexes: texts whose lines all have entries, with pairs of key and stamp that never fall.
use Rattle.std.specs.Prelude.{◌≡◌, ℕ, List, map, Some}
use Rattle.cdxj_places.specs.Pairs.{pair_cmp}
use Rattle.cdxj_places.specs.Rising.{NeverFalls}
use Rattle.cdxj_places.specs.TextLines.{lines}
use Rattle.cdxj_core.specs.Members.{Member, member_pair, line_entry}

-- lines within the limit that are these members, whose pairs never fall
pub record IsRun (limit : ℕ) (these : List (List ℕ)) (members : List Member) : Type 0 where
  pub entries : map (line_entry limit) these ≡ map Some members
  pub ordered : NeverFalls member_pair pair_cmp members

-- the text is an index with these members
abbrev pub IsIndex : ℕ → List ℕ → List Member → Type 0
IsIndex limit text members = IsRun limit (lines text) members
