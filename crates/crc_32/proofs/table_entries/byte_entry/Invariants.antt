use Rattle.std.proofs.Common.{◌≡◌, ◌-◌}
use Rattle.crc_32.specs.Crc.{crc_bits}
use Rattle.crc_32.proofs.table_entries.byte_entry.Given as goal

abbrev pub invariant-bits : goal.invariant-bits
invariant-bits l = crc_bits (8 - l.counter) l.register ≡ crc_bits 8 l.byte
