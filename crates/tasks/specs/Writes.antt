-- Which outcomes go with a failure of the output.
use Rattle.std.specs.Prelude.{◌≡◌, ℕ}
use Rattle.devices.specs.Device.{next_count}
use Rattle.index_core.specs.declared.fault.IndexFault.TheVariants as faults
use Rattle.query_core.specs.declared.fault.AnswerFault.TheVariants as answers
use Rattle.outcomes.specs.declared.outcome.Outcome.{Outcome}
use Rattle.outcomes.specs.declared.outcome.Outcome.TheVariants as outcomes

-- An outcome of Write goes with one more failure of the output, any other with none.
abbrev pub CountsWrites : Outcome → ℕ → ℕ → Type 0
CountsWrites (outcomes.Index faults.Write) old new = new ≡ next_count old
CountsWrites (outcomes.Answer answers.Write) old new = new ≡ next_count old
CountsWrites outcome old new = new ≡ old
