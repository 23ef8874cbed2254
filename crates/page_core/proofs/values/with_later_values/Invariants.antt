use Rattle.std.proofs.Common.{◌≡◌, ◌++◌, take}
use Rattle.std.specs.Prelude.{flat_map}
use Rattle.page_core.specs.Rows.{row_value}
use Rattle.page_core.proofs.values.with_later_values.Given as goal

abbrev pub invariant-loop-field : goal.invariant-loop-field
invariant-loop-field l = l.row.items ≡ l.initial.row.items ++ flat_map (λ f. l.between ++ row_value l.line f)
    (take l.field-index l.fields)
