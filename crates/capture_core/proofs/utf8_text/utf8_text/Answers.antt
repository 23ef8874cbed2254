use Rattle.std.proofs.lemmas.Grind.{common_steps}
use Rattle.std.proofs.lemmas.Str.{is_utf8-from_IsUtf8, IsUtf8-from_is_utf8}
use Rattle.std.proofs.Common.{arith}
use Rattle.capture_core.specs.Utf8Text.{utf8_text}
use Rattle.capture_core.proofs.utf8_text.utf8_text.Goals as goal

pub returns-in-Ok : goal.returns-in-Ok
unfolding utf8_text
returns-in-Ok c = grind (arith, is_utf8-from_IsUtf8)

pub returns-in-Err : goal.returns-in-Err
unfolding utf8_text
returns-in-Err c =
    grind (arith, IsUtf8-from_is_utf8, common_steps)
