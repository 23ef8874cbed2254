-- What contracts see of a `Gather`.
use Rattle.std.specs.Prelude.{ℕ, List}
use Rattle.devices.specs.declared.memory.Gather.{Gather}

-- the bytes that it took
abbrev pub gathered : Gather → List ℕ
gathered g = g.bytes.items

-- how often it failed
abbrev pub gather_failures : Gather → ℕ
gather_failures g = g.failures
