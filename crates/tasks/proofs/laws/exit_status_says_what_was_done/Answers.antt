use Rattle.tasks.proofs.StatusLemmas.{no_write_failed, outcome_counts, usage_changes_nothing, zero_says_done}
use Rattle.tasks.proofs.laws.exit_status_says_what_was_done.Goals as goal

pub returns-clause-zero : goal.returns-clause-zero
returns-clause-zero g c = λ words written flushed failures old new runs.
    zero_says_done written flushed failures _ words old new runs

pub returns-clause-usage : goal.returns-clause-usage
returns-clause-usage g c = λ written flushed failures old new status runs.
    usage_changes_nothing written flushed failures old new status runs

pub returns-clause-failed : goal.returns-clause-failed
returns-clause-failed g c = λ task written flushed failures old new status runs other.
    no_write_failed written flushed failures _ task old new status runs other

pub returns-clause-counts : goal.returns-clause-counts
returns-clause-counts g c = outcome_counts
