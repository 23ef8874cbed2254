use Rattle.std.proofs.Common.{ap, ◌≡◌}
use Rattle.tasks.proofs.AllOpenLemmas.{many_keep, refused_keeps, unopened_keeps}
use Rattle.tasks.proofs.laws.refused_tasks_write_nothing.Goals as goal

pub returns-clause-unopened : goal.returns-clause-unopened
returns-clause-unopened g c = λ task written old new first h.
    unopened_keeps _ (written old) (written new) (new ≡ old) (ap written) task first h

pub returns-clause-refused : goal.returns-clause-refused
returns-clause-refused g c = λ task fault written old new h.
    refused_keeps _ (written old) (written new) (new ≡ old) (ap written) fault task h

pub returns-clause-many : goal.returns-clause-many
returns-clause-many g c = λ task outcome written old new first many h.
    many_keep _ (written old) (written new) (new ≡ old) (ap written) outcome task first many h
