use Rattle.query_core.proofs.Words.{arith, err_from_is_err_and, grows_on}
use Rattle.query_core.proofs.{PagesLemmas.broke_more, WriterLemmas.one_more, WriterLemmas.parted}
use Rattle.query_core.proofs.page_writer.PageWriterSink.take.Goals as goal

pub loop-line-preserved : goal.loop-line-preserved
loop-line-preserved g c = record {
  wrote = λ first taken start s.
      rw (← one_more (λ l. l.now) taken c.args.lines.now _ c.line-item.result c.loop-line-test.true c.line-item.is)
      (c.in_ok-take_line.ensures.wrote first _ start (c.loop-line.invariant.wrote first taken start s));
  grows = grows_on _ _ _ c.loop-line.invariant.grows c.take_line.ensures.grows;
  failures = grind arith;
}

pub returns-in_err-take_line-clause-wrote : goal.returns-in_err-take_line-clause-wrote
returns-in_err-take_line-clause-wrote g c = λ first taken start s.
    let parts = parted (λ l. l.now) taken c.args.lines.now _ c.line-item.result c.loop-line-test.true c.line-item.is in
    let broke = c.in_err-take_line.ensures.wrote first _ start (c.loop-line.invariant.wrote first taken start s) in
    rw ((err_from_is_err_and c.from_residual.result c.from_residual.ensures.1).1, parts.1)
    (broke_more first _ parts.0 start _ broke)

pub returns-in_err-take_line-clause-grows : goal.returns-in_err-take_line-clause-grows
returns-in_err-take_line-clause-grows g c = grows_on _ _ _ c.loop-line.invariant.grows c.take_line.ensures.grows
