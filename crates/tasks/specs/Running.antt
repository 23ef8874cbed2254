-- What the program does with its arguments, by its exit status.
use Rattle.std.specs.Prelude.{◌≡◌, ◌⊎◌, ℕ, List, Bool, true, false, Option, Result, Ok, Err}
use Rattle.std.specs.Io.KnownBytes.{Appends, Keeps}
use Rattle.devices.specs.Device.{next_count}
use Rattle.command_line.specs.Commands.{Meaning, ToServe, Refusal, Help, Usage}
use Rattle.outcomes.specs.declared.outcome.Outcome.{Outcome}
use Rattle.outcomes.specs.declared.outcome.Outcome.TheVariants as outcomes
use Rattle.tasks.specs.Buffers.{KeepsOrTellsNothing}
use Rattle.outcomes.specs.Outcome.{exit_status_of}
use Rattle.tasks.specs.Performing.{Openings, Performs}
use Rattle.tasks.specs.Writes.{CountsWrites}

-- the exit status, by the task's outcome, and by whether the output could be flushed then
abbrev pub flushed_status : Outcome → Bool → ℕ
flushed_status outcome true = exit_status_of outcome
flushed_status outcome false = 3

-- what an output tells: the bytes that were written, those that have left its buffer, and how often it failed
module _ {O : Type 0} (written flushed : O → Option (List ℕ)) (failures : O → ℕ) where
  -- the output was flushed, or couldn't be
  abbrev pub Flushes : Bool → O → O → Type 0
  Flushes true old new = (flushed new ≡ written new) × (failures new ≡ failures old)
  Flushes false old new = failures new ≡ next_count (failures old)

  -- memory failed before anything was written
  abbrev pub LacksMemory : O → O → ℕ → Type 0
  LacksMemory old new status = (status ≡ 3) × (new ≡ old)

  -- a conversation's output hands on each reply; any other task begins at the output as it is
  abbrev pub Begins : Meaning → O → O → Type 0
  Begins (ToServe names) old begun =
      KeepsOrTellsNothing (written old) (written begun) × (failures begun ≡ failures old)
  Begins task old begun = begun ≡ old

  -- a task was performed, and the output then flushed
  pub record PerformsAndFlushes (files : Openings) (task : Meaning) (old new : O) (status : ℕ) : Type 0 where
    pub begun : O
    pub ended : O
    pub outcome : Outcome
    pub is_flushed : Bool
    pub begins : Begins task old begun
    pub performs : Performs files (written begun) (written ended) (ended ≡ begun) outcome task
    pub writes : CountsWrites outcome (failures begun) (failures ended)
    pub kept : Keeps (written ended) (written new)
    pub flushes : Flushes is_flushed ended new
    pub status_is : status ≡ flushed_status outcome is_flushed

  -- a text was written and flushed
  abbrev pub WritesAndFlushes : List ℕ → O → O → Type 0
  WritesAndFlushes text old new = Appends (written old) (written new) text × (flushed new ≡ written new)

  -- so with the status 0, or the output failed
  abbrev pub PrintsText : List ℕ → O → O → ℕ → Type 0
  PrintsText text old new status = ((status ≡ 0) × WritesAndFlushes text old new) ⊎ (status ≡ 3)

  -- by what the words ask for
  abbrev pub RunsWords : Openings → Result Meaning Refusal → O → O → ℕ → Type 0
  RunsWords files (Ok task) old new status =
      PerformsAndFlushes files task old new status ⊎ LacksMemory old new status
  RunsWords files (Err Help) old new status = (text : List ℕ) × PrintsText text old new status
  RunsWords files (Err Usage) old new status = ((status ≡ 2) × (new ≡ old)) ⊎ LacksMemory old new status

  -- a task ended as done, and all that it wrote was flushed
  pub record IsDoneAndFlushed (files : Openings) (task : Meaning) (old new : O) : Type 0 where
    pub begun : O
    pub ended : O
    pub begins : Begins task old begun
    pub performs : Performs files (written begun) (written ended) (ended ≡ begun) outcomes.Done task
    pub kept : Keeps (written ended) (written new)
    pub all : flushed new ≡ written new

  -- what the exit status 0 says
  abbrev pub EndsWith0 : Openings → Result Meaning Refusal → O → O → Type 0
  EndsWith0 files (Ok task) old new = IsDoneAndFlushed files task old new
  EndsWith0 files (Err Help) old new =
      (text : List ℕ) × WritesAndFlushes text old new
  EndsWith0 files (Err Usage) old new = ⊥
