-- The texts of an entry aren't empty.
use Rattle.std.proofs.Common.{ℕ, ◌<◌, List, length, Option}
use Rattle.std.proofs.Common.{arith}
use Rattle.percent_encoding.proofs.PercentLemmas.{percent_encode_nonempty}
use Rattle.std.proofs.lemmas.Grind.{common_steps}
use Rattle.warc_core.specs.HeadView.{HeadView}
use Rattle.capture_core.specs.Utf8Text.{utf8_text}
use Rattle.capture_core.specs.Capture.{ResponseValue, content_of}

-- the text of a value that isn't empty isn't either
pub text_is_filled : (value : List ℕ) → 0 < length value → 0 < length (utf8_text value)
unfolding utf8_text
text_is_filled value h = grind (arith, percent_encode_nonempty)

pub content_is_filled : (h : HeadView) (response : Option ResponseValue) → 0 < length (content_of h response)
unfolding content_of
content_is_filled h response = grind (arith, common_steps)
