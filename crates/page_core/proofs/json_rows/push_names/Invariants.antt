use Rattle.std.proofs.Common.{◌≡◌, ◌∷◌, [], ◌++◌, take, map}
use Rattle.std.specs.Prelude.{flat_map}
use Rattle.json.specs.Print.{quoted}
use Rattle.cdxj_core.specs.Fields.{field_name}
use Rattle.page_core.proofs.json_rows.push_names.Given as goal

abbrev pub invariant-loop-field : goal.invariant-loop-field
invariant-loop-field l = l.text.items ≡ l.initial.text.items ++ flat_map (λ t. 44 ∷ [] ++ quoted t)
    (map field_name (take l.field-index l.later))
