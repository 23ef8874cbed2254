use Rattle.std.proofs.Common.{◌≡◌, length}
use Rattle.crc_32.specs.Tables.{HasEntries}
use Rattle.crc_32.proofs.table_entries.table_entries.Given as goal

abbrev pub invariant-first : goal.invariant-first
invariant-first l = record { size : length l.entries.items ≡ l.byte; entries : HasEntries l.entries.items l.byte }

abbrev pub invariant-others : goal.invariant-others
invariant-others l = record { size : length l.entries.items ≡ l.place; entries : HasEntries l.entries.items l.place }
