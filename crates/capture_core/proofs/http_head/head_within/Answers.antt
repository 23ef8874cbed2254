use Rattle.std.proofs.Common.{◌≡◌, ◌∙◌, length, ap, arith}
use Rattle.httparse.specs.Grammar.{ResponseHead, print_response}
use Rattle.httparse.specs.Spans.{IsResponseAt}
use Rattle.httparse.proofs.GrammarLemmas.{response_unique}
use Rattle.capture_core.proofs.http_head.head_within.Goals as goal

pub returns-else-head-le-HTTP_HEAD_LIMIT-clause-none : goal.returns-else-head-le-HTTP_HEAD_LIMIT-clause-none
returns-else-head-le-HTTP_HEAD_LIMIT-clause-none c = λ h payload begins.
    let found : (other : ResponseHead)
    × IsResponseAt c.args.block.now c.parse_response.new.headers c.in-Ok-Complete.head other =
    rw c.in-Ok-Complete.field-0-is at c.in-Ok-Complete.ensures.complete in
    let same = response_unique c.args.block.now found.0 h _ payload found.1.reads begins.reads in
    let size : c.in-Ok-Complete.head.len ≡ length (print_response h) = found.1.len
    ∙ ap (λ x. length (print_response x)) same.0 in
    grind arith
