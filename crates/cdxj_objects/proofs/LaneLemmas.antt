-- From vectors that were compared to the fronts of lists.
use Rattle.std.proofs.Common.{◌≡◌, ℕ, suc, ◌+◌, ◌≤◌, ◌%◌, ◌^◌, ◌||◌, Bool, not, cond, List, [], ◌∷◌}
use Rattle.std.proofs.Common.{◌-◌, ◌<◌, ◌∙◌, refl, ap, take_all, length-drop, map, length, take, drop, bit_or, eqb, ltb, arith}
use Rattle.std.specs.Char.{is_ascii_digit}
use Rattle.std.specs.List.{prefix_len}
use Rattle.std.proofs.lemmas.List.{length-map}
use Rattle.std.proofs.lemmas.Bool.Decides.{nat_tests}
use Rattle.std.specs.Int.{trailing_zeros, w64}
use Rattle.std.proofs.lemmas.List.Folds.{prefix_len-append}
use Rattle.std.proofs.lemmas.List.Sums.{prefix_len-le-length}
use Rattle.std.proofs.lemmas.Simd.{chunk-drop, first_set_mask_l, length-chunk, map-map, mask_l-mod}
use lib.Lanes.{chunk, zip2, mask_l, top}
use Rattle.cdxj_objects.specs.Plain.{is_neither, is_printable_ascii}

-- two numbers differ
abbrev pub differ : ℕ → ℕ → Bool
differ x y = not (eqb x y)

-- lists that differ nowhere in a front have that front in common
pub same_front : (n : ℕ) (xs ys : List ℕ) → n ≤ prefix_len not (zip2 differ xs ys) → take n xs ≡ take n ys
same_front (suc n) (x ∷ xs) (y ∷ ys) h = grind (arith, same_front n xs ys)
same_front n xs ys h = grind arith

-- the front of bytes that pass a test, as it goes on behind some of them
pub front_behind : (p : ℕ → Bool) (k : ℕ) (xs : List ℕ) → k ≤ prefix_len p xs → k + prefix_len p (drop k xs) ≡
    prefix_len p xs
front_behind p (suc k) (x ∷ xs) h = grind (arith, front_behind p k xs)
front_behind p k xs h = grind arith

-- ---- masks

-- a mask of n lanes, whose first bit that is set stands behind this many
abbrev pub Stops : ℕ → ℕ → ℕ → Type 0
Stops mask n run = (cond (eqb mask 0) n (trailing_zeros w64 mask) ≡ run)
    × (0 < mask → trailing_zeros w64 mask < n)

-- a mask is empty if no lane stops the run
empty_mask : (p : ℕ → Bool) (v : List ℕ) → prefix_len (λ x. not (p x)) v ≡ length v → mask_l (map p v) ≡ 0
empty_mask p [] h = refl
empty_mask p (x ∷ xs) h = grind (arith, empty_mask p xs)

mask_stops : (p : ℕ → Bool) (v : List ℕ) (n : ℕ) → length v ≡ n → n ≤ 64
    → Stops (mask_l (map p v)) n (prefix_len (λ x. not (p x)) v)
mask_stops p v n long few =
    let first = first_set_mask_l p v n long few in
    let most = prefix_len-le-length (λ x. not (p x)) v in
    (first, grind (arith, empty_mask p v))

-- ---- either of two bytes

abbrev pub is_either : ℕ → ℕ → ℕ → Bool
is_either first second x = eqb x first || eqb x second

-- what a vector has for a byte, once it was compared with both
abbrev pub either_lane : ℕ → ℕ → ℕ → ℕ
either_lane first second x = bit_or (cond (eqb x first) 255 0) (cond (eqb x second) 255 0)

either_masks : (first second : ℕ) (v z : List ℕ) → length v ≡ 16 → z ≡ map (either_lane first second) v
    → mask_l (map (top 7) z) % 2 ^ 64 ≡ mask_l (map (is_either first second) v)
either_masks first second v z long e =
    grind (
      arith,
      map-map,
      mask_l-mod (map (is_either first second) v) 64 (omega (arith, length-map v (is_either first second), long)),
    )

neither : (first second x : ℕ) → not (is_either first second x) ≡ is_neither first second x
neither first second x = grind arith

either_runs : (first second : ℕ) (v : List ℕ) → prefix_len (λ x. not (is_either first second x)) v ≡ prefix_len
    (is_neither first second) v
either_runs first second v = λ i. prefix_len (λ x. neither first second x i) v

pub either_first : (first second : ℕ) (v z : List ℕ) → length v ≡ 16 → z ≡ map (either_lane first second) v
    → Stops (mask_l (map (top 7) z) % 2 ^ 64) 16 (prefix_len (is_neither first second) v)
either_first first second v z long e =
    rw (either_masks first second v z long e, ← either_runs first second v)
    (mask_stops (is_either first second) v 16 long (omega arith))

-- ---- digits

abbrev pub no_digit : ℕ → Bool
no_digit x = ltb x 48 || ltb 57 x

-- what a vector has for a byte, once it was compared with the first and the last digit
abbrev pub digit_lane : ℕ → ℕ
digit_lane x = bit_or (cond (ltb x 48) 255 0) (cond (ltb 57 x) 255 0)

tops_all : (v : List ℕ) → map (λ x. top 7 (digit_lane x)) v ≡ map no_digit v
tops_all v = grind arith

pub digit_masks : (v z : List ℕ) → length v ≡ 16 → z ≡ map digit_lane v → mask_l (map (top 7) z) % 2 ^ 64 ≡ mask_l
    (map no_digit v)
digit_masks v z long e =
    grind (arith, map-map, tops_all, mask_l-mod (map no_digit v) 64 (omega (arith, length-map v no_digit, long)))

digit : (x : ℕ) → not (no_digit x) ≡ is_ascii_digit x
digit x = grind (arith, nat_tests)

pub digit_runs : (v : List ℕ) → prefix_len (λ x. not (no_digit x)) v ≡ prefix_len is_ascii_digit v
digit_runs v = λ i. prefix_len (λ x. digit x i) v

-- ---- controls, and bytes that are none of ASCII

abbrev pub is_outside : ℕ → Bool
is_outside x = ltb x 32 || ltb 127 x

-- what a vector has for a byte, once it was compared with both
abbrev pub outside_lane : ℕ → ℕ
outside_lane x = bit_or (cond (ltb x 32) 255 0) (cond (ltb 127 x) 255 0)

pub outside_masks : (v z : List ℕ) → length v ≡ 32 → z ≡ map outside_lane v → mask_l (map (top 7) z) % 2 ^ 64 ≡ mask_l
    (map is_outside v)
outside_masks v z long e =
    grind (arith, map-map, mask_l-mod (map is_outside v) 64 (omega (arith, length-map v is_outside, long)))

printable : (x : ℕ) → not (is_outside x) ≡ is_printable_ascii x
printable x = grind (arith, nat_tests)

pub printable_runs : (v : List ℕ) → prefix_len (λ x. not (is_outside x)) v ≡ prefix_len is_printable_ascii v
printable_runs v = λ i. prefix_len (λ x. printable x i) v

pub outside_first : (v z : List ℕ) → length v ≡ 32 → z ≡ map outside_lane v
    → Stops (mask_l (map (top 7) z) % 2 ^ 64) 32 (prefix_len is_printable_ascii v)
outside_first v z long e =
    rw (outside_masks v z long e, ← printable_runs v) (mask_stops is_outside v 32 long (omega arith))

-- ---- the run of bytes that pass a test, cut behind a vector

pub run_ends : (p : ℕ → Bool) (i n : ℕ) (xs : List ℕ) → i + n ≤ length xs → prefix_len p (chunk i n xs) < n
    → prefix_len p (drop i xs) ≡ prefix_len p (chunk i n xs)
run_ends p i n xs room short =
    let all = length-chunk i n xs room in
    let cut = ap (prefix_len p) (chunk-drop i n xs) ∙ prefix_len-append p (chunk i n xs) (drop (i + n) xs) in
    grind arith

pub run_goes_on : (p : ℕ → Bool) (i n : ℕ) (xs : List ℕ) → i + n ≤ length xs → n ≤ prefix_len p (chunk i n xs)
    → prefix_len p (drop i xs) ≡ n + prefix_len p (drop (i + n) xs)
run_goes_on p i n xs room whole =
    let all = length-chunk i n xs room in
    let most = prefix_len-le-length p (chunk i n xs) in
    let cut = ap (prefix_len p) (chunk-drop i n xs) ∙ prefix_len-append p (chunk i n xs) (drop (i + n) xs) in
    grind arith

-- the last vector of a text is all that is left of it
pub last_run : (p : ℕ → Bool) (n : ℕ) (xs : List ℕ) → n ≤ length xs → length xs - n ≤ prefix_len p xs
    → (length xs - n) + prefix_len p (chunk (length xs - n) n xs) ≡ prefix_len p xs
last_run p n xs room before = grind (arith, take_all, length-drop, front_behind)
