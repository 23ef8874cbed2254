-- What contracts see of a source that stands on another one.
use Rattle.std.specs.Prelude.{ℕ, List, Option}

-- its bytes, their number, how often it failed, and how many bytes it gave
pub record SourceState : Type 0 where
  pub text : Option (List ℕ)
  pub extent : ℕ
  pub failures : ℕ
  pub gave : ℕ
