-- How a command over one file ends as done.
use native.Mathlib.Omega.{arith}
use Rattle.std.proofs.Common.{◌≡◌, ℕ, List, Bool, true, false, Option, Ok, Err, MatchBool, refl, sym}
use Rattle.outcomes.specs.declared.outcome.Outcome.{Outcome}
use Rattle.outcomes.specs.declared.outcome.Outcome.TheVariants as outcomes
use Rattle.index_core.specs.Indexing.{Held}
use Rattle.tasks.specs.Indexing.{WritesIndex}
use Rattle.outcomes.specs.Outcome.{ends_command, exit_status_of, worse_of}

-- an outcome that is no worse than done, is done
worse_is_done : (ended : Outcome) → outcomes.Done ≡ worse_of outcomes.Done ended → ended ≡ outcomes.Done
unfolding exit_status_of
worse_is_done outcomes.Done e = refl
worse_is_done ended e = grind arith

-- the one step of a command that ends as done
pub one_done : {S : Type 0} (ended : Outcome) (next last : S)
    → MatchBool (ends_command ended) ((outcomes.Done ≡ ended) × (last ≡ next))
    ((outcomes.Done ≡ worse_of outcomes.Done ended) × (last ≡ next))
    → (ended ≡ outcomes.Done) × (last ≡ next)
one_done ended next last e = go (ends_command ended) e
  where
    go : (b : Bool) → MatchBool b ((outcomes.Done ≡ ended) × (last ≡ next))
        ((outcomes.Done ≡ worse_of outcomes.Done ended) × (last ≡ next)) → (ended ≡ outcomes.Done) × (last ≡ next)
    go true e = (sym e.0, e.1)
    go false e = (worse_is_done ended e.0, e.1)

-- an index that was written whole, of archives of which the worst ended as done
pub added_done : (reached : Outcome) (unchanged : Type 0) (held : Held) (before after : Option (List ℕ))
    → MatchBool (ends_command reached) ((outcomes.Done ≡ reached) × unchanged)
    (WritesIndex held reached before after outcomes.Done)
    → (reached ≡ outcomes.Done) × WritesIndex held reached before after outcomes.Done
unfolding ends_command
added_done outcomes.Done unchanged held before after w = (refl, w)
added_done reached unchanged held before after w = go (ends_command reached) refl w
  where
    go : (b : Bool) → ends_command reached ≡ b → MatchBool b ((outcomes.Done ≡ reached) × unchanged)
        (WritesIndex held reached before after outcomes.Done)
        → (reached ≡ outcomes.Done) × WritesIndex held reached before after outcomes.Done
    go true e w = grind arith
    go false e (Ok n, is, fault, text) = (sym is, (Ok n, is, fault, text))
    go false e (Err f, is, fault, text) = grind arith
