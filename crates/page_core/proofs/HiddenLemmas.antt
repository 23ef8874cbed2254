-- Hidden bytes, counted by vectors.
use Rattle.std.proofs.Common.{◌≡◌, ◌∙◌, ℕ, ◌+◌, ◌≤◌, ◌%◌, ◌^◌, Bool, false, cond, List, [], ◌∷◌, ◌++◌}
use Rattle.std.proofs.Common.{map, length, take, drop, eqb, leb, bit_or, count_ones, flat_map, refl, ap}
use Rattle.std.proofs.Common.{arith}
use Rattle.std.specs.List.{count_by}
use Rattle.std.proofs.lemmas.List.{length-map, take-append-drop}
use Rattle.std.proofs.lemmas.List.Sums.{sum_by-append, sum_by-cons}
use Rattle.std.proofs.Math.Seq.{drop-append_seam}
use Rattle.std.proofs.lemmas.Simd.{map-map, mask_l-mod, ones-mask_l}
use lib.Lanes.{mask_l, top}
use Rattle.page_core.specs.Rows.{is_hidden, escaped}

-- what a vector has for a byte, once it was compared with the space and the delete
abbrev pub lane : ℕ → ℕ
lane x = bit_or (cond (leb x 32) 255 0) (cond (eqb x 127) 255 0)

tops_all : (v : List ℕ) → map (λ x. top 7 (lane x)) v ≡ map is_hidden v
tops_all v = grind arith

pub lanes_counted : (v z : List ℕ) → length v ≡ 16 → z ≡ map lane v → count_ones (mask_l (map (top 7) z) % 2 ^ 64) ≡
    count_by is_hidden v
lanes_counted v z long e =
    ap (λ l. count_ones (mask_l l % 2 ^ 64)) (grind (arith, map-map))
    ∙ ap count_ones (mask_l-mod (map is_hidden v) 64 (omega (arith, length-map v is_hidden, long)))
    ∙ ones-mask_l is_hidden v

-- of no special bytes, none follows the first n
pub none_left : (p : ℕ → Bool) (n : ℕ) (xs : List ℕ) → count_by p xs ≡ 0 → count_by p (drop n xs) ≡ 0
none_left p n xs h =
    let cut = ap (count_by p) (take-append-drop n xs) in
    omega (arith, h, cut, sum_by-append (λ b. cond (p b) 1 0) (take n xs) (drop n xs))

-- ---- rows that are written as their values stand

-- what was appended after this many bytes
pub appended : (old row text : List ℕ) (n : ℕ) → n ≡ length old → text ≡ old ++ row → drop n text ≡ row
appended old row text n e is = grind (arith, drop-append_seam)

-- Texts with one hidden byte between them. If there are no more in all, the texts are as they would be escaped.
module _ {X : Type 0} (p : ℕ → Bool) (plain escaped : X → List ℕ) (between : List ℕ)
    (same : (x : X) → count_by p (plain x) ≤ 0 → plain x ≡ escaped x) (seam : count_by p between ≡ 1) where
  abbrev later : (X → List ℕ) → List X → List ℕ
  later f xs = flat_map (λ x. between ++ f x) xs

  later_count : (x : X) (xs : List X) → count_by p (later plain (x ∷ xs)) ≡ (1 + count_by p (plain x)) + count_by p
      (later plain xs)
  later_count x xs = grind (arith, sum_by-append)

  later_least : (xs : List X) → length xs ≤ count_by p (later plain xs)
  later_least [] = omega arith
  later_least (x ∷ xs) = omega (arith, later_count x xs, later_least xs)

  later_same : (xs : List X) → count_by p (later plain xs) ≤ length xs → later plain xs ≡ later escaped xs
  later_same [] h = refl
  later_same (x ∷ xs) h = grind (arith, later_count, later_least, later_same xs (omega (arith, later_count x xs)))

-- ---- texts that need no escape

-- of no special bytes, neither the first one is one, nor one of the others
none_parts : (p : ℕ → Bool) (x : ℕ) (xs : List ℕ) → count_by p (x ∷ xs) ≤ 0 → (p x ≡ false) × (count_by p xs ≤ 0)
none_parts p x xs h =
    let whole = sum_by-cons (λ b. cond (p b) 1 0) x xs in
    grind arith

-- a text without hidden bytes isn't escaped
pub shown : (xs : List ℕ) → count_by is_hidden xs ≤ 0 → xs ≡ escaped xs
shown [] h = refl
shown (x ∷ xs) h =
    let parts = none_parts is_hidden x xs h in
    grind (arith, shown xs parts.1)

-- ---- rows

-- values with no hidden bytes but the spaces before them aren't escaped
pub text_same : {X : Type 0} (value : X → List ℕ) (fields : List X)
    → count_by is_hidden (flat_map (λ f. (32 ∷ []) ++ value f) fields) ≤ length fields
    → flat_map (λ f. (32 ∷ []) ++ value f) fields ≡ flat_map (λ f. (32 ∷ []) ++ escaped (value f)) fields
text_same value fields h = later_same is_hidden value (λ x. escaped (value x)) (32 ∷ []) (λ x. shown (value x)) refl
    fields h

-- a row that was appended as its values stand
pub ruleset row_rules = (appended, text_same, shown)
