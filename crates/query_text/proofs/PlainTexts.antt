-- A text with no sign of the form encoding stands for itself.
use Rattle.std.proofs.Common.{arith, ◌≡◌, ◌≢◌, ℕ, List, true, false, IsUtf8}
use Rattle.std.proofs.lemmas.Grind.{common_steps}
use Rattle.std.proofs.lemmas.Str.{utf8_lossy-IsUtf8}
use Rattle.std.specs.List.{list_all}
use Rattle.form_urlencoded.proofs.FormLemmas.{decode_plain}
use Rattle.query_text.specs.Parts.{is_plain, decoded}

differs : (b sign : ℕ) → is_plain b ≡ true → is_plain sign ≡ false → b ≢ sign
differs b sign plain encoding = grind arith

pub plain_text_stands : (text : List ℕ) → IsUtf8 text → list_all is_plain text ≡ true → decoded text ≡ text
plain_text_stands text valid plain = grind (arith, common_steps, decode_plain, utf8_lossy-IsUtf8)
