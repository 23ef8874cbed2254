use Rattle.std.proofs.Common.{◌≡◌, ◌∷◌, [], ◌++◌, take, map}
use Rattle.std.specs.Prelude.{flat_map}
use Rattle.json.specs.Print.{quoted}
use Rattle.page_core.specs.Rows.{row_value}
use Rattle.page_core.proofs.json_rows.push_quoted_values.Given as goal

abbrev pub invariant-loop-field : goal.invariant-loop-field
invariant-loop-field l = l.text.items ≡ l.initial.text.items ++ flat_map (λ t. 44 ∷ [] ++ quoted t)
    (map (row_value l.line) (take l.field-index l.later))
