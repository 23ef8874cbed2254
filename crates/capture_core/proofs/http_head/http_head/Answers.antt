use Rattle.std.proofs.Common.{◌≡◌, length, rules}
use Rattle.capture_core.specs.declared.http_head.TheConstants.{HTTP_HEAD_LIMIT, HTTP_FIELD_LIMIT}
use Rattle.capture_core.proofs.HeadLemmas.{no_head_in_nothing}
use Rattle.capture_core.proofs.http_head.http_head.Goals as goal

pub returns-then-is_empty-clause-none : goal.returns-then-is_empty-clause-none
returns-then-is_empty-clause-none c =
    let empty : length c.args.block.now ≡ 0 = search rules in
    no_head_in_nothing HTTP_HEAD_LIMIT HTTP_FIELD_LIMIT c.args.block.now empty
