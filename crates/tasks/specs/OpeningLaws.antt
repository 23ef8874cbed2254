-- What the opening of files says of how a task ends.
use Rattle.std.specs.Prelude.{ℕ, ⊤, List}
use Rattle.command_line.specs.Commands.{Meaning, ToCheck, ToIndex, ToList, ToVerify}
use Rattle.tasks.specs.Performing.{Openings}

-- no opening of a file fails
pub record AllOpen (files : Openings) : Type 0 where
  pub archives : (name : List ℕ) → files.ArchiveFailed name → ⊥
  pub indexes : (name : List ℕ) → files.IndexFailed name → ⊥

-- the task is one call over all its files, which are opened before it writes
abbrev pub OpensAllFirst : Meaning → Type 0
OpensAllFirst (ToList names) = ⊥
OpensAllFirst (ToVerify names) = ⊥
OpensAllFirst (ToIndex types input names) = ⊥
OpensAllFirst (ToCheck names) = ⊥
OpensAllFirst task = ⊤
