-- The lanes at which two loads have a byte.
use Rattle.warc_head.proofs.Words.{◌≡◌, ◌∙◌, ℕ, ◌+◌, ◌^◌, ◌<◌, ◌≤◌, Bool, true, false, ◌&&◌, List}
use Rattle.warc_head.proofs.Words.{◌∷◌, length, get_or, sym, ap, arith, zip2_splat, length-chunk}
use Rattle.warc_head.proofs.Words.{chunk}
use Rattle.std.proofs.Common.{◌%◌, eqb, cond, bit_and, not, map, replicate}
use Rattle.std.specs.List.{prefix_len}
use Rattle.std.proofs.lemmas.Bool.{eq-eqb, not-true}
use Rattle.std.proofs.lemmas.List.{map-id}
use Rattle.std.proofs.lemmas.List.Sums.{prefix_len-le-length, prefix_len_passes}
use Rattle.std.proofs.lemmas.Simd.{get_or-chunk, get_or-zip2, length-zip2, mask_l-mod}
use Rattle.std.proofs.lemmas.Simd.{first_set_mask_l}
use Rattle.httparse.specs.Pieces.{first_set}
use lib.Lanes.{zip2, mask_l, top}

-- the lanes of a vector that have a byte: 255, and 0 elsewhere
abbrev pub has_byte : ℕ → ℕ → ℕ
has_byte a b = cond (eqb a b) 255 0

abbrev pub lanes_of : ℕ → ℕ → List ℕ → List ℕ
lanes_of n y v = zip2 has_byte v (replicate n y)

both_top : (s t : Bool) → top 7 (bit_and (cond s 255 0) (cond t 255 0)) ≡ (s && t)
both_top s t = grind arith

both_tops : (y : ℕ) (v w : List ℕ) → map (top 7) (zip2 bit_and (map (λ x. has_byte x y) v) (map (λ x. has_byte x y) w))
    ≡ zip2 (λ a b. eqb a y && eqb b y) v w
both_tops y (a ∷ v) (b ∷ w) = grind (arith, both_top, both_tops y v w)
both_tops y v w = grind arith

-- two loads of a text, from i and j on, and how many lanes precede the first at which both have the byte
module _ (text : List ℕ) (i j y r : ℕ) (first : i + 32 ≤ length text) (second : j + 32 ≤ length text) where
  abbrev v : List ℕ
  v = chunk i 32 text

  abbrev w : List ℕ
  w = chunk j 32 text

  abbrev both : List Bool
  both = zip2 (λ a b. eqb a y && eqb b y) v w

  abbrev mask : ℕ
  mask = mask_l (map (top 7) (zip2 bit_and (lanes_of 32 y v) (lanes_of 32 y w))) % 2 ^ 64

  long_v : length v ≡ 32
  long_v = length-chunk i 32 text first

  long_w : length w ≡ 32
  long_w = length-chunk j 32 text second

  long : length both ≡ 32
  long = length-zip2 _ v w (long_v ∙ sym long_w) ∙ long_v

  mask_is : mask ≡ mask_l (map (λ b. b) both)
  mask_is =
      ap (λ l. mask_l l % 2 ^ 64)
      ((λ k. map (top 7) (zip2 bit_and (zip2_splat has_byte v 32 y long_v k) (zip2_splat has_byte w 32 y long_w k)))
      ∙ both_tops y v w)
      ∙ mask_l-mod both 64 (omega (arith, long)) ∙ ap mask_l (sym (map-id both))

  counted : r ≡ first_set mask 32 → r ≡ prefix_len (λ b. not b) both
  counted found = grind (arith, mask_is, first_set_mask_l, long)

  pub both_bound : r ≡ first_set mask 32 → r ≤ 32
  both_bound found = grind (arith, counted, long, prefix_len-le-length)

  pub both_none : r ≡ first_set mask 32 → (k : ℕ) → k < r → get_or text (i + k) 0 ≡ y → get_or text (j + k) 0 ≡ y → ⊥
  both_none found k below p q =
      let inside : k < 32 = omega (arith, both_bound found) in
      let none : get_or both k false ≡ false = grind (arith, not-true, prefix_len_passes, counted) in
      let s : eqb (get_or v k 0) y ≡ true = eq-eqb _ _ (get_or-chunk i 32 text k 0 inside ∙ p) in
      let t : eqb (get_or w k 0) y ≡ true = eq-eqb _ _ (get_or-chunk j 32 text k 0 inside ∙ q) in
      grind (arith, get_or-zip2, long_v, long_w)
