-- Laws of the part of a buffer that is held.
use Rattle.std.proofs.Common.{◌≡◌, ℕ, ◌+◌, ◌-◌, ◌≤◌, List, [], ◌∷◌, ◌++◌, Option, None, Some, length, take, drop, sym}
use Rattle.std.proofs.Common.{ap, ◌∙◌, arith, append_assoc}
use Rattle.std.proofs.lemmas.List.{drop-take, drop-drop, take-append-drop}
use Rattle.std.specs.Io.KnownBytes.{Keeps, Consumes, prepend_known}

pub consumed : {X : Type 0} (from to count : ℕ) (xs : List X) → count ≤ to - from
    → take (to - (from + count)) (drop (from + count) xs) ≡ drop count (take (to - from) (drop from xs))
consumed from to count xs h =
    let e : to - from ≡ count + (to - (from + count)) = omega arith in
    grind (arith, drop-take, drop-drop)

split : (n : ℕ) (xs ys : List ℕ) → xs ++ ys ≡ take n xs ++ (drop n xs ++ ys)
split n xs ys = ap (λ z. z ++ ys) (sym (take-append-drop n xs)) ∙ append_assoc (take n xs) (drop n xs) ys

-- the first bytes that are held are skipped
pub skips-held : (left : Option (List ℕ)) (held : List ℕ) (n : ℕ)
    → Consumes (prepend_known held left) (prepend_known (drop n held) left) (take n held)
skips-held left held n = grind (arith, split)

-- the input skipped nothing and was read, and the first bytes that are held now are skipped
pub skips-read : (before mid after : Option (List ℕ)) (none held now : List ℕ) (n : ℕ) → Consumes before mid none
    → length none ≡ 0 → Keeps (prepend_known held mid) (prepend_known now after)
    → Consumes (prepend_known held before) (prepend_known (drop n now) after) (take n now)
skips-read None mid after none held now n c e k = tt
skips-read (Some z) None after none held now n c e k = absurd c
skips-read (Some z) (Some w) None none held now n c e k = absurd k
skips-read (Some z) (Some w) (Some v) [] held now n c e k = grind (arith, split)
skips-read (Some z) (Some w) (Some v) (b ∷ none) held now n c e k = absurd (omega (arith, e))
