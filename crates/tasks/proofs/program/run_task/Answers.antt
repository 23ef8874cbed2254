use Rattle.tasks.proofs.StatusLemmas.{flush_flushes, flushed_is}
use Rattle.tasks.proofs.program.run_task.Goals as goal

pub returns : goal.returns
returns g c = record {
  begun = c.begin.new.out;
  ended = c.perform-outcome.new.out;
  outcome = c.perform-outcome.result;
  is_flushed = c.is_ok-is_flushed.result;
  begins = c.begin.ensures;
  performs = c.perform-outcome.ensures.performs;
  writes = c.perform-outcome.ensures.writes;
  kept = c.flush.ensures.bytes;
  flushes = flush_flushes g.O.Output.written g.O.Flush.flushed g.O.Output.failures c.flush.result _ _ _
      c.is_ok-is_flushed.ensures.value c.flush.ensures.all c.flush.ensures.failures;
  status_is = rw (c.end.ensures, c.flushed_outcome.ensures)
      (flushed_is c.perform-outcome.result c.is_ok-is_flushed.result);
}
