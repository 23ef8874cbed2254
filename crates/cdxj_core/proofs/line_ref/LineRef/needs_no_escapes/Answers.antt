use Rattle.std.proofs.Common.{◌≡◌, ◌≤◌, ℕ, true, suc, zero, List, [], ◌∷◌, take, nat_lt, refl, arith}
use Rattle.std.specs.List.{list_all, prefix_len}
use Rattle.std.proofs.lemmas.Bool.{and_parts}
use Rattle.std.proofs.lemmas.Bool.Decides.{nat_tests}
use Rattle.json.specs.Run.{is_plain}
use Rattle.cdxj_places.specs.Pair.{is_key, is_key_byte}
use Rattle.cdxj_objects.specs.Plain.{is_neither}
use Rattle.cdxj_objects.proofs.PlainBytes.{digits_plain}
use Rattle.cdxj_core.proofs.line_ref.LineRef.needs_no_escapes.Goals as goal

-- a byte of a key that is no quote and no backslash is plain
plain_byte : (b : ℕ) → is_key_byte b ≡ true → is_neither 34 92 b ≡ true → is_plain b ≡ true
plain_byte b h k = grind (arith, nat_tests)

plain_front : (n : ℕ) (xs : List ℕ) → list_all is_key_byte (take n xs) ≡ true
    → n ≤ prefix_len (is_neither 34 92) xs → list_all is_plain (take n xs) ≡ true
plain_front zero xs h k = refl
plain_front (suc n) [] h k = refl
plain_front (suc n) (x ∷ xs) h k = grind (arith, plain_byte, plain_front n xs)

plain_key : {key : List ℕ} → (n : ℕ) (xs : List ℕ) → take n xs ≡ key → is_key key ≡ true
    → n ≤ prefix_len (is_neither 34 92) xs → list_all is_plain key ≡ true
plain_key {key = key} n xs e h k = grind (arith, plain_front, and_parts, nat_lt)

pub returns-then-self : goal.returns-then-self
returns-then-self c = λ far.
    let line = c.self.invariant in
    let key = plain_key c.self.inside.spans.key c.self.inside.text.now line.key_is line.key_rule
    (grind (arith, nat_tests)) in
    grind (arith, digits_plain)
