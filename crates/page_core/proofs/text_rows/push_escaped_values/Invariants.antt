use Rattle.std.proofs.Common.{◌≡◌, ◌∷◌, [], ◌++◌, take}
use Rattle.std.specs.Prelude.{flat_map}
use Rattle.page_core.specs.Rows.{row_value, escaped}
use Rattle.page_core.proofs.text_rows.push_escaped_values.Given as goal

abbrev pub invariant-loop-field : goal.invariant-loop-field
invariant-loop-field l = l.text.items ≡ l.initial.text.items ++ flat_map (λ f. 32 ∷ [] ++ escaped (row_value l.line f))
    (take l.field-index l.fields)
