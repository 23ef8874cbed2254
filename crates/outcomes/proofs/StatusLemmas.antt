-- Which outcomes have the exit status 0.
use native.Mathlib.Omega.{arith}
use Rattle.std.proofs.Common.{◌≡◌, refl, true}
use Rattle.outcomes.specs.declared.outcome.Outcome.TheVariants as outcomes
use Rattle.outcomes.specs.Outcome.{ZeroIsDone, exit_status_of}

pub zero_is_done : ZeroIsDone
unfolding exit_status_of
zero_is_done outcomes.Done true e = (refl, refl)
zero_is_done outcome flushed e = grind arith
