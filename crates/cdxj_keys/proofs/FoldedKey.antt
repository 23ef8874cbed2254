-- A folded text that isn't empty is a key.
use Rattle.std.proofs.Common.{◌≡◌, ◌∙◌, ℕ, suc, ◌<◌, true, ◌&&◌, nat_lt, List, [], ◌∷◌, length, length-append}
use Rattle.std.proofs.Common.{All, get_or, refl, arith}
use Rattle.std.proofs.lemmas.List.Folds.{list_all-append}
use Rattle.std.proofs.lemmas.List.Sums.{AllPass-from_list_all}
use Rattle.std.proofs.lemmas.Grind.{common_steps}
use Rattle.std.specs.List.{list_all}
use Rattle.url.specs.Parts.{Parts}
use Rattle.cdxj_keys.specs.Key.{is_graphic, key_byte, folded, web_text}
use Rattle.cdxj_keys.proofs.GraphicLemmas.{byte_is_ascii}
use Rattle.cdxj_places.specs.Pair.{is_key_byte, is_key}

byte_is_key : (b : ℕ) → b < 256 → list_all is_key_byte (key_byte b) ≡ true
byte_is_key b h = grind (arith, common_steps)

bytes_are_key : (bytes : List ℕ) → All (λ b. b < 256) bytes → list_all is_key_byte (folded bytes) ≡ true
bytes_are_key [] h = refl
bytes_are_key (b ∷ bytes) h =
    list_all-append is_key_byte (key_byte b) (folded bytes)
    ∙ (λ i. byte_is_key b (h 0 0 (grind (arith, common_steps))) i && bytes_are_key bytes
    (λ k d below. h (suc k) d (grind (arith, common_steps))) i)

is_filled : (bytes : List ℕ) → 0 < length bytes → nat_lt 0 (length (folded bytes)) ≡ true
is_filled [] h = absurd (omega arith)
is_filled (b ∷ bytes) h = grind (arith, common_steps, key_byte, folded)

pub folded_is_key : (bytes : List ℕ) → All (λ b. b < 256) bytes → 0 < length bytes → is_key (folded bytes) ≡ true
folded_is_key bytes small h = λ i. is_filled bytes h i && bytes_are_key bytes small i

pub graphic_is_key : (text : List ℕ) → list_all is_graphic text ≡ true → 0 < length text → is_key (folded text) ≡ true
graphic_is_key text h = grind (arith, folded_is_key, byte_is_ascii, get_or, AllPass-from_list_all)

-- the key text of a web URL isn't empty
pub web_text_is_filled : (url : Parts) → 0 < length (web_text url)
web_text_is_filled url = grind (arith, length-append)
