-- Which outcomes have the exit status 0.
use native.Mathlib.Omega.{arith}
use Rattle.std.proofs.Common.{◌≡◌, ◌∙◌, ◌⊎◌, ℕ, List, [], Option, Bool, true, false, refl, sym, subst, inl, inr, Result, Ok, Err}
use Rattle.std.specs.Prelude.{OnOk, is_ok}
use Rattle.command_line.specs.Commands.{Meaning, Refusal, Help, Usage}
use Rattle.devices.specs.Device.{CountsFailure}
use Rattle.outcomes.specs.declared.outcome.Outcome.TheVariants as outcomes
use Rattle.outcomes.specs.declared.outcome.Outcome.{Outcome}
use Rattle.outcomes.specs.Outcome.{exit_status_of, flushed_outcome}
use Rattle.tasks.specs.Performing.{Openings, Performs}
use Rattle.tasks.specs.Running.{Flushes, IsDoneAndFlushed, PerformsAndFlushes, PrintsText, RunsWords, WritesAndFlushes}
use Rattle.tasks.specs.Running.{Begins, EndsWith0, LacksMemory, flushed_status}
use Rattle.tasks.specs.Writes.{CountsWrites}

-- the status of the outcome that is said at the end
pub flushed_is : (outcome : Outcome) (flushed : Bool)
    → exit_status_of (flushed_outcome outcome flushed) ≡ flushed_status outcome flushed
unfolding exit_status_of
flushed_is outcome true = refl
flushed_is outcome false = grind arith

zero_is_flushed : (outcome : Outcome) (flushed : Bool) → flushed_status outcome flushed ≡ 0
    → (outcome ≡ outcomes.Done) × (flushed ≡ true)
unfolding exit_status_of
zero_is_flushed outcomes.Done true e = (refl, refl)
zero_is_flushed outcome flushed e = grind arith

-- an outcome with another status than 3 counts no failure
unless_3 : (outcome : Outcome) (old new : ℕ) → CountsWrites outcome old new → (exit_status_of outcome ≡ 3 → ⊥) → new ≡ old
unfolding exit_status_of
unless_3 outcome old new counts other = grind arith

pub outcome_counts : (outcome : Outcome) (old this that : ℕ) → CountsWrites outcome old this
    → CountsWrites outcome old that → this ≡ that
outcome_counts outcome old this that a b = grind arith

module _ {O : Type 0} (written flushed : O → Option (List ℕ)) (failures : O → ℕ) where
  -- a call that flushes
  pub flush_flushes : {A E : Type 0} (result : Result A E) (is_flushed : Bool) (old new : O)
      → is_flushed ≡ is_ok result → OnOk result (flushed new ≡ written new)
      → CountsFailure result (failures old) (failures new)
      → Flushes written flushed failures is_flushed old new
  flush_flushes (Ok answer) is_flushed old new e all counts = rw e (all, counts)
  flush_flushes (Err fault) is_flushed old new e all counts = rw e counts

  pub prints : {A E : Type 0} (text : List ℕ) (result : Result A E) (is_printed : Bool) (old new : O) (status : ℕ)
      → is_printed ≡ is_ok result → OnOk result (WritesAndFlushes written flushed failures text old new)
      → status ≡ flushed_status outcomes.Done is_printed → PrintsText written flushed failures text old new status
  unfolding exit_status_of
  prints text (Ok answer) is_printed old new status e all is = inl (rw (is, e) refl, all)
  prints text (Err fault) is_printed old new status e all is = inr (rw (is, e) refl)

  pub lacks_memory : (files : Openings) (wanted : Result Meaning Refusal) (old : O)
      → RunsWords written flushed failures files wanted old old 3
  lacks_memory files (Ok task) old = inr (refl, refl)
  lacks_memory files (Err Help) old = ([], inr refl)
  lacks_memory files (Err Usage) old = inr (refl, refl)

  pub done_at_0 : (files : Openings) (task : Meaning) (old new : O) (status : ℕ)
      → PerformsAndFlushes written flushed failures files task old new status → status ≡ 0
      → IsDoneAndFlushed written flushed failures files task old new
  done_at_0 files task old new status runs zero =
      let done = zero_is_flushed runs.outcome runs.is_flushed (rw (sym runs.status_is) zero) in
      let flushes : Flushes written flushed failures true runs.ended new =
      subst (λ is_flushed. Flushes written flushed failures is_flushed runs.ended new) done.1 runs.flushes in
      record {
        begun = runs.begun;
        ended = runs.ended;
        begins = runs.begins;
        performs = subst (λ outcome. Performs files (written runs.begun) (written runs.ended)
            (runs.ended ≡ runs.begun) outcome task) done.0 runs.performs;
        kept = runs.kept;
        all = flushes.0;
      }

  pub zero_says_done : (files : Openings) (wanted : Result Meaning Refusal) (old new : O)
      → RunsWords written flushed failures files wanted old new 0
      → EndsWith0 written flushed failures files wanted old new
  zero_says_done files (Ok task) old new (inl runs) = done_at_0 files task old new 0 runs refl
  zero_says_done files (Ok task) old new (inr lacks) = absurd (let three = lacks.0 in cc)
  zero_says_done files (Err Help) old new (text, inl printed) = (text, printed.1)
  zero_says_done files (Err Help) old new (text, inr three) = absurd (cc)
  zero_says_done files (Err Usage) old new (inl two) = absurd (let is = two.0 in cc)
  zero_says_done files (Err Usage) old new (inr lacks) = absurd (let three = lacks.0 in cc)

  pub usage_changes_nothing : (old new : O) (status : ℕ)
      → ((status ≡ 2) × (new ≡ old)) ⊎ LacksMemory written flushed failures old new status
      → (new ≡ old) × (status ≡ 0 → ⊥)
  usage_changes_nothing old new status runs = grind arith

  begins_unfailed : (task : Meaning) (old begun : O) → Begins written flushed failures task old begun
      → failures begun ≡ failures old
  begins_unfailed task old begun begins = grind arith

  after_flush : (outcome : Outcome) (is_flushed : Bool) (ended new : O) (status : ℕ)
      → Flushes written flushed failures is_flushed ended new → status ≡ flushed_status outcome is_flushed
      → (status ≡ 3 → ⊥) → (failures new ≡ failures ended) × (exit_status_of outcome ≡ 3 → ⊥)
  after_flush outcome true ended new status flushes is other = (flushes.1, λ three. other (is ∙ three))
  after_flush outcome false ended new status flushes is other = absurd (other is)

  -- no write failed where the status isn't 3
  pub no_write_failed : (files : Openings) (task : Meaning) (old new : O) (status : ℕ)
      → RunsWords written flushed failures files (Ok task) old new status → (status ≡ 3 → ⊥) → failures new ≡ failures old
  no_write_failed files task old new status (inl runs) other =
      let after = after_flush runs.outcome runs.is_flushed runs.ended new status runs.flushes runs.status_is other in
      after.0 ∙ unless_3 runs.outcome _ _ runs.writes after.1 ∙ begins_unfailed task old runs.begun runs.begins
  no_write_failed files task old new status (inr lacks) other = absurd (other lacks.0)
