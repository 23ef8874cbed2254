use Rattle.query_core.proofs.Words.{ap, inl, refl}
use Rattle.query_core.proofs.ReplyLemmas.{fault_reply, gave_page}
use Rattle.query_core.specs.AnyReplies.{fault_text}
use Rattle.query_core.proofs.serving.reply_to_query.Goals as goal

pub returns-in-Ok-clause-reply : goal.returns-in-Ok-clause-reply
returns-in-Ok-clause-reply g c =
    let page = c.in-Ok.ensures.page in
    (_, record { lines = page.lines; are = page.are; whole = page.whole; holds = inl refl }, page.holds.text)

pub returns-in-Err-clause-reply : goal.returns-in-Err-clause-reply
returns-in-Err-clause-reply g c =
    let page = c.in-Err.ensures.page in
    (_, record { lines = page.lines; are = page.are; whole = page.whole; holds = inl refl }, page.holds)

pub returns-in-Err-BadLine-clause-reply : goal.returns-in-Err-BadLine-clause-reply
returns-in-Err-BadLine-clause-reply g c =
    fault_reply _ _ _ _ _ _ _ _ c.in-Err-BadLine.ensures.page c.in-Err-BadLine.ensures.fault
    (ap fault_text c.in-Err-BadLine.field-0-is) c.put_fault_line.ensures.text

pub returns-in-Err-BadLine-clause-bytes : goal.returns-in-Err-BadLine-clause-bytes
returns-in-Err-BadLine-clause-bytes g c = λ texts indexes known are.
    gave_page g.S.Source c.args.query.now _ texts indexes _ _ (c.answer.ensures.reads.bytes texts indexes known are).page

pub returns-in-Err-OutOfOrder-clause-reply : goal.returns-in-Err-OutOfOrder-clause-reply
returns-in-Err-OutOfOrder-clause-reply g c =
    fault_reply _ _ _ _ _ _ _ _ c.in-Err-OutOfOrder.ensures.page c.in-Err-OutOfOrder.ensures.fault
    (ap fault_text c.in-Err-OutOfOrder.field-0-is) c.put_fault_line-in-Err-OutOfOrder.ensures.text

pub returns-in-Err-OutOfOrder-clause-bytes : goal.returns-in-Err-OutOfOrder-clause-bytes
returns-in-Err-OutOfOrder-clause-bytes g c = λ texts indexes known are.
    gave_page g.S.Source c.args.query.now _ texts indexes _ _ (c.answer.ensures.reads.bytes texts indexes known are).page
