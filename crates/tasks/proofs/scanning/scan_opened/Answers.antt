use Rattle.std.proofs.Common.{arith}
use Rattle.scan_core.specs.Scanning.{IsScanFault}
use Rattle.tasks.proofs.scanning.scan_opened.Goals as goal

pub returns-clause-writes : goal.returns-clause-writes
unfolding IsScanFault
returns-clause-writes g c = grind arith
