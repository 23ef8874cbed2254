use Rattle.std.proofs.Common.{◌≡◌, ◌≤◌, ◌-◌, drop, length}
use Rattle.crc_32.specs.Crc.{crc_register}
use Rattle.crc_32.proofs.slicing.register_after.Given as goal

abbrev pub invariant-sixteen : goal.invariant-sixteen
invariant-sixteen l = record {
  within : l.at ≤ length l.bytes;
  same : crc_register l.crc (drop l.at l.bytes) ≡ crc_register l.fn.register l.bytes;
}

abbrev pub decreases-sixteen : goal.decreases-sixteen
decreases-sixteen l = length l.bytes - l.at
