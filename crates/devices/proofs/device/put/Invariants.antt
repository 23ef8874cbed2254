use Rattle.std.proofs.Common.{◌≡◌, length}
use Rattle.devices.specs.Device.{WroteUpTo}
use Rattle.devices.proofs.device.put.Given as goal

abbrev pub invariant-loop-rest : goal.invariant-loop-rest
invariant-loop-rest g l = record {
  wrote : WroteUpTo (g.O.Output.written l.fn.out) (g.O.Output.written l.out) l.fn.bytes l.rest;
  count : g.O.Output.failures l.out ≡ g.O.Output.failures l.fn.out;
}

abbrev pub decreases-loop-rest : goal.decreases-loop-rest
decreases-loop-rest g l = length l.rest
