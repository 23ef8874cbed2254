use Rattle.query_core.proofs.Words.{IsTextReply, QUERY_LIMIT, err_from_is_err_and, map}
use Rattle.query_core.proofs.ReplyLemmas.{unmarked_reply}
use Rattle.query_core.proofs.serving.reply_and_mark.Goals as goal

pub returns-in_err-reply_to_line-clause-reply : goal.returns-in_err-reply_to_line-clause-reply
returns-in_err-reply_to_line-clause-reply g c =
    rw (err_from_is_err_and c.from_residual.result c.from_residual.ensures.1).1
    (unmarked_reply QUERY_LIMIT (IsTextReply (map g.S.Source.text c.args.sources.now)) _ _ _ c.in_err-reply_to_line.ensures.reply)
