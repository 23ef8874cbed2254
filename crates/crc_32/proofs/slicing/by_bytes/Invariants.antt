use Rattle.std.proofs.Common.{◌≡◌, drop}
use Rattle.crc_32.specs.Crc.{crc_register}
use Rattle.crc_32.proofs.slicing.by_bytes.Given as goal

abbrev pub invariant-bytes : goal.invariant-bytes
invariant-bytes l = crc_register l.crc (drop l.byte-index l.bytes) ≡ crc_register l.fn.register l.bytes
