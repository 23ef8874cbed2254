use Rattle.std.proofs.Common.{arith}
use Rattle.capture_core.proofs.CaptureLemmas.{parts-given}
use Rattle.capture_core.proofs.record_capture.read_capture.Goals as goal

pub returns-in_ok-block-in-Some-clause-parts : goal.returns-in_ok-block-in-Some-clause-parts
returns-in_ok-block-in-Some-clause-parts g c = grind (arith, parts-given)
