use Rattle.std.proofs.Common.{arith}
use Rattle.page_core.specs.Rows.{row_value}
use Rattle.page_core.proofs.HiddenLemmas.{appended, text_same}
use Rattle.page_core.proofs.text_rows.push_later_values.Goals as goal

pub returns-else-branch-fields : goal.returns-else-branch-fields
returns-else-branch-fields c = grind (arith, appended, text_same (row_value c.args.line.now) c.args.fields.now)
