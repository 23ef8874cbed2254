use Rattle.std.proofs.Common.{arith}
use Rattle.std.proofs.lemmas.Result.{err_from_is_err_and}
use Rattle.capture_core.proofs.CaptureLemmas.{refused}
use Rattle.capture_core.proofs.record_capture.held_capture.Goals as goal

pub returns-in_err-line-in-Some-clause-capture : goal.returns-in_err-line-in-Some-clause-capture
returns-in_err-line-in-Some-clause-capture g c = grind (arith, err_from_is_err_and, refused)
