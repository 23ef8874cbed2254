use Rattle.std.proofs.Common.{◌≡◌, true}
use Rattle.archives.specs.PackedState.{packed_state}
use Rattle.packed_tests.proofs.records.list.Given as goal

abbrev pub invariant-records : goal.invariant-records
invariant-records g l = (packed_state l.archive.file).is_open ≡ true
