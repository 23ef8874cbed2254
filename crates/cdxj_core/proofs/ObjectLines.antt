-- What the line of an object of seven texts says.
use Rattle.std.proofs.Common.{◌≡◌, ℕ, ◌<◌, List, length, Some, arith}
use Rattle.cdxj_places.specs.Places.{offset_of}
use Rattle.cdxj_objects.specs.Plain.{ArePlain, plain_text, values_of_texts}
use Rattle.cdxj_objects.specs.Texts.{TextsValue}
use Rattle.cdxj_objects.proofs.PlainLaw.{read_plain}
use Rattle.cdxj_core.specs.Lines.{line_value, line_object}

pub line_object-plain : (key stamp : List ℕ) (t : TextsValue) (offset : ℕ) → ArePlain t → offset_of t.offset ≡ Some
    offset → 0 < length t.filename
    → line_object key stamp (plain_text t) ≡ Some (line_value key stamp (values_of_texts t) offset)
line_object-plain key stamp t offset h o f = grind (arith, read_plain)
