use Rattle.tasks.proofs.StatusLemmas.{done_at_0, lacks_memory}
use Rattle.tasks.proofs.program.run_on.Goals as goal

pub returns-in-Ok-clause-done : goal.returns-in-Ok-clause-done
returns-in-Ok-clause-done g c zero = rw c.in-Ok.ensures (done_at_0 _ _ _ _ _ _ _ _ c.run_task.ensures zero)

pub returns-in-Err-Memory-clause-runs : goal.returns-in-Err-Memory-clause-runs
returns-in-Err-Memory-clause-runs g c = rw c.say_memory.ensures (lacks_memory _ _ _ _ _ _)
