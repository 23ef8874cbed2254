-- What contracts see of an output that hands on replies at once.
use Rattle.std.specs.Prelude.{ℕ}
use Rattle.devices.specs.declared.prompt.Prompt.{Prompt}

-- how often it failed
abbrev pub prompt_failures : {W : Type 0} → Prompt W → ℕ
prompt_failures p = p.failures

-- the writer within
abbrev pub prompt_writer : {W : Type 0} → Prompt W → W
prompt_writer p = p.writer
