use Rattle.std.proofs.Common.{append_assoc, arith}
use Rattle.page_core.specs.Rows.{row_value}
use Rattle.page_core.proofs.JsonLemmas.{between_each}
use Rattle.page_core.proofs.json_rows.push_plain_values.Goals as goal

pub returns-in_ok-extend_from_slice-3 : goal.returns-in_ok-extend_from_slice-3
returns-in_ok-extend_from_slice-3 c =
    let each = between_each (row_value c.args.line.now) c.in-Some.later.now in
    grind (arith, append_assoc)
