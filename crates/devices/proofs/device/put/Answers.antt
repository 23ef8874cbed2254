use Rattle.std.proofs.Common.{arith}
use Rattle.devices.proofs.DeviceLemmas.{WroteUpTo-more}
use Rattle.std.proofs.lemmas.List.{take_rest}
use Rattle.devices.proofs.device.put.Goals as goal

pub loop-rest-preserved : goal.loop-rest-preserved
loop-rest-preserved g c = record {
  wrote = rw take_rest (WroteUpTo-more _ _ _ _ _ c.in_ok-taken.taken c.loop-rest.invariant.wrote
      c.in_ok-taken.ensures.bytes);
  count = grind arith;
}
