use Rattle.warc_head.proofs.Words.{arith, take_rest}
use Rattle.warc_head.specs.Fields.{field_in}
use Rattle.warc_head.proofs.LineLemmas.{colon_at, colon_none}
use Rattle.warc_head.proofs.field_lines.any_name_end.Goals as goal

pub returns-in_err-end : goal.returns-in_err-end
unfolding field_in
returns-in_err-end c = grind (arith, colon_none)

pub returns-then-is_name : goal.returns-then-is_name
unfolding field_in
returns-then-is_name c = grind (arith, take_rest, colon_at)

pub returns-else-is_name : goal.returns-else-is_name
unfolding field_in
returns-else-is_name c = grind (arith, take_rest, colon_at)
