use Rattle.query_core.proofs.Words.{QUERY_LIMIT, arith, map, query_of, wrote_nothing}
use Rattle.query_core.proofs.ReplyLemmas.{line_rules, line_tests, some_reply}
use Rattle.query_core.proofs.serving.reply_to_line.Goals as goal

pub returns-in-Err-Memory-clause-reply : goal.returns-in-Err-Memory-clause-reply
returns-in-Err-Memory-clause-reply g c =
    let some = some_reply (map g.S.Source.text c.args.sources.now) (query_of QUERY_LIMIT c.args.line.now) in
    (some.0, grind (arith, line_tests), wrote_nothing _ some.0)

pub returns-then-line-gt-QUERY_LIMIT : goal.returns-then-line-gt-QUERY_LIMIT
returns-then-line-gt-QUERY_LIMIT g c = grind (arith, line_rules)

pub returns-in-Err : goal.returns-in-Err
returns-in-Err g c = grind (arith, line_rules)

pub returns-in-Ok-read : goal.returns-in-Ok-read
returns-in-Ok-read g c = grind (arith, line_rules)

pub returns-in-Err-read : goal.returns-in-Err-read
returns-in-Err-read g c = grind (arith, line_rules)
