use Rattle.std.proofs.Common.{length}
use Rattle.capture_core.proofs.types.Types.+with_names.Given as goal

abbrev pub decreases-with_names : goal.decreases-with_names
decreases-with_names l = length l.names.now
