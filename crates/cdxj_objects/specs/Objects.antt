-- The JSON object of a line, as it is written.
use Rattle.std.specs.Prelude.{ℕ, List, ◌++◌, codes}
use Rattle.std.specs.List.{join_by}
use Rattle.json.specs.Print.{quoted}

-- `"name": "value"`
abbrev pub member_text : List ℕ × List ℕ → List ℕ
member_text (name, value) = quoted name ++ codes ": " ++ quoted value

-- the members between braces, with `, ` between
abbrev pub object_text : List (List ℕ × List ℕ) → List ℕ
object_text members = codes "{" ++ (join_by member_text (codes ", ") members ++ codes "}")
