-- Texts that need no escape.
use Rattle.std.proofs.Common.{◌≡◌, ◌<◌, ℕ, get_or, IsUtf8, arith, Bool, true, ◌&&◌, List, [], ◌∷◌, map, refl}
use Rattle.std.proofs.lemmas.List.Sums.{AllPass-from_list_all}
use Rattle.std.proofs.lemmas.Str.{IsUtf8-from_ascii}
use Rattle.std.proofs.lemmas.Str.Ascii.{IsAscii-from_all}
use Rattle.std.specs.List.{list_all}
use Rattle.std.specs.Char.{to_ascii_lowercase}
use Rattle.cdxj_keys.specs.Key.{is_graphic, folded}

and_both : (t a : Bool) → (t && a) ≡ true → (t ≡ true) × (a ≡ true)
and_both t a h = grind arith

pub folded-graphic : (text : List ℕ) → list_all is_graphic text ≡ true → folded text ≡ map to_ascii_lowercase text
folded-graphic [] h = refl
folded-graphic (b ∷ bytes) h =
    let p = and_both (is_graphic b) (list_all is_graphic bytes) h in
    grind (arith, folded-graphic bytes p.1)

pub byte_is_ascii : (b : ℕ) → is_graphic b ≡ true → b < 128
byte_is_ascii b h = grind arith

pub graphic_utf8 : (text : List ℕ) → list_all is_graphic text ≡ true → IsUtf8 text
graphic_utf8 text h = grind (arith, IsUtf8-from_ascii, IsAscii-from_all, byte_is_ascii, get_or, AllPass-from_list_all)

pub ruleset graphic_rules = (folded-graphic, graphic_utf8)
