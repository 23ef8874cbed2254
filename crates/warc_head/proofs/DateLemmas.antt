-- The forms of a date.
use Rattle.warc_head.proofs.Words.{◌≡◌, ℕ, ◌<◌, ◌≤◌, Bool, true, false, ◌&&◌, List, ◌∷◌, length}
use Rattle.warc_head.proofs.Words.{take, drop, refl, arith, Some, codes, suc, ◌+◌, ◌++◌, get_or}
use Rattle.warc_head.proofs.Words.{append-nil, list_all, ◌==◌, if◌then◌else◌, nat_tests}
use Rattle.std.proofs.Common.{zero, Option, None, length-take}
use Rattle.std.specs.List.{zip}
use Rattle.warc_head.specs.Length.{is_digit, all_digits}
use Rattle.warc_head.specs.Date.{fits, fits_byte, two, digits_of, full_date, date_length}
use Rattle.warc_head.specs.Date.{has_fraction, is_fraction, to_the_second}
use Rattle.warc_head.proofs.LineLemmas.{false_of}

pub and_both : (t a : Bool) → (t && a) ≡ true → (t ≡ true) × (a ≡ true)
and_both t a h = grind arith

pub fits_long : (p t : List ℕ) → fits p t ≡ true → length p ≡ length t
unfolding fits
fits_long (p ∷ ps) (b ∷ bs) h = grind (arith, fits_long ps bs)
fits_long ps bs h = grind arith

-- a text has a form if it has its length and agrees with it byte by byte
pub fits_by_zip : (p t : List ℕ) → ((length p == length t) && list_all (λ q. fits_byte q.0 q.1) (zip p t)) ≡ fits p t
unfolding fits
fits_by_zip (p ∷ ps) (b ∷ bs) = grind (arith, fits_by_zip ps bs)
fits_by_zip ps bs = grind (arith, nat_tests)

-- a digit stands where the form has one
digit_at : (f t : List ℕ) (i : ℕ) → fits f t ≡ true → get_or f i 0 ≡ 48 → is_digit (get_or t i 0) ≡ true
unfolding fits
digit_at (f ∷ fs) (b ∷ bs) (suc i) h e = grind (arith, digit_at fs bs i)
digit_at fs bs i h e = grind arith

pub both : (a b : Bool) → a ≡ true → b ≡ true → (a && b) ≡ true
both a b h k = grind arith

-- a text in front of what fills it up has the form too
fits_filled : (f g z t : List ℕ) (n : ℕ) → fits f z ≡ true → fits g t ≡ true → take n g ≡ take n f → n ≤ length g
    → fits f (take n t ++ drop n z) ≡ true
unfolding fits
fits_filled (f ∷ fs) (g ∷ gs) (c ∷ cs) (b ∷ bs) (suc n) h k e l = grind (arith, fits_filled fs gs cs bs n)
fits_filled f g z t zero h k e l = h
fits_filled f g z t n h k e l = grind arith

zeros_fit : fits to_the_second (codes "0000-01-01T00:00:00") ≡ true
unfolding fits
zeros_fit = refl

-- the first bytes of a text say a date and a time to the second
abbrev pub IsWhole : List ℕ → ℕ → Type 0
IsWhole t n = (n ≤ 19) × (n ≤ length t) × (fits to_the_second (full_date t n) ≡ true)

filled : (g t : List ℕ) (n : ℕ) → n ≤ 19 → n ≤ length g → take n g ≡ take n to_the_second → fits g t ≡ true
    → IsWhole t n
filled g t n s l e h = (
  s,
  omega (arith, l, fits_long g t h),
  fits_filled to_the_second g (codes "0000-01-01T00:00:00") t n zeros_fit h e l,
)

fraction_filled : (t : List ℕ) → has_fraction t ≡ true → IsWhole t 19
fraction_filled t h =
    let front = (and_both (fits to_the_second (take 19 t)) (is_fraction (drop 19 t)) h).0 in
    let size = fits_long to_the_second (take 19 t) front in
    (omega arith, omega (arith, size, length-take 19 t), rw append-nil front)

chosen : (t : List ℕ) (b : Bool) (size n : ℕ) (later : Option ℕ) → (b ≡ true → IsWhole t size)
    → (later ≡ Some n → IsWhole t n) → (if b then Some size else later) ≡ Some n → IsWhole t n
chosen t true size n later f g e = grind arith
chosen t false size n later f g e = g e

-- each of the six forms, filled up, says so
pub whole_fits : (t : List ℕ) (n : ℕ) → date_length t ≡ Some n → IsWhole t n
unfolding date_length
whole_fits t n =
    chosen t _ 4 n _ (filled (codes "0000") t 4 (omega arith) (omega arith) refl)
    (chosen t _ 7 n _ (filled (codes "0000-00") t 7 (omega arith) (omega arith) refl)
    (chosen t _ 10 n _ (filled (codes "0000-00-00") t 10 (omega arith) (omega arith) refl)
    (chosen t _ 16 n _ (filled (codes "0000-00-00T00:00Z") t 16 (omega arith) (omega arith) refl)
    (chosen t _ 19 n _ (filled (codes "0000-00-00T00:00:00Z") t 19 (omega arith) (omega arith) refl)
    (chosen t _ 19 n None (fraction_filled t) (λ none. grind arith))))))

pub short_fraction : (t : List ℕ) → length t < 19 → has_fraction t ≡ false
short_fraction t l = false_of (has_fraction t) (λ h. omega (arith, (fraction_filled t h).1))

digit_at_most : (b : ℕ) → is_digit b ≡ true → b ≤ 57
digit_at_most b h = grind arith

pub two_small : (w : List ℕ) (i : ℕ) → fits to_the_second w ≡ true → get_or to_the_second i 0 ≡ 48
    → get_or to_the_second (i + 1) 0 ≡ 48 → two w i ≤ 99
two_small w i h a b = grind (arith, digit_at_most, digit_at to_the_second w i, digit_at to_the_second w (i + 1))

-- the stamp of a date text is of digits
pub digits_of-digits : (w : List ℕ) → fits to_the_second w ≡ true → all_digits (digits_of w) ≡ true
digits_of-digits w h = grind (arith, digit_at)
