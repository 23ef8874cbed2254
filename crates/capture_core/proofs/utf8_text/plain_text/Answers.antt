use Rattle.std.proofs.lemmas.Str.{is_utf8-from_IsUtf8}
use Rattle.std.proofs.Common.{arith}
use Rattle.capture_core.specs.Utf8Text.{utf8_text}
use Rattle.capture_core.proofs.utf8_text.plain_text.Goals as goal

pub returns-clause-value : goal.returns-clause-value
unfolding utf8_text
returns-clause-value c = grind (arith, is_utf8-from_IsUtf8)
