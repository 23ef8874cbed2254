use Rattle.std.proofs.Common.{arith, length-take}
use Rattle.devices.proofs.BufferLemmas.{consumed}
use Rattle.devices.proofs.buffer.Buffer.consume.Goals as goal

pub returns : goal.returns
returns c = grind (arith, length-take, consumed)
