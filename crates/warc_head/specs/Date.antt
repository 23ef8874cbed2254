-- The date of a record, in six forms, and its stamp of fourteen digits (ISO 28500:2017, 5.4).
use Rattle.std.specs.Prelude.{ℕ, ◌+◌, ◌-◌, ◌*◌, ◌==◌, ◌&&◌, nat_le, Bool, true, false, List, [], ◌∷◌, ◌++◌, length}
use Rattle.std.specs.Prelude.{take, drop, codes, Option, None, Some, Result, Ok, Err, if◌then◌else◌, slice_index}
use Rattle.warc_head.specs.Bytes.{full_stop, digit_0, letter_z}
use Rattle.warc_head.specs.declared.fault.HeadFault.{HeadFault}
use Rattle.warc_head.specs.declared.fault.HeadFault.TheVariants as faults
use Rattle.warc_head.specs.Length.{is_digit, all_digits}
use Rattle.warc_head.specs.Calendar.{is_date}

-- a digit where the form has 0, and else the form's byte
abbrev pub fits_byte : ℕ → ℕ → Bool
fits_byte f b = if f == digit_0 then is_digit b else b == f

-- the text has the form, byte by byte
unfoldable pub fits : List ℕ → List ℕ → Bool
fits [] [] = true
fits [] (b ∷ bs) = false
fits (f ∷ fs) [] = false
fits (f ∷ fs) (b ∷ bs) = fits_byte f b && fits fs bs

-- `.`, one to nine digits, `Z`
abbrev pub is_fraction : List ℕ → Bool
is_fraction text =
    nat_le 3 (length text) && nat_le (length text) 11 && (slice_index text 0 == full_stop) &&
    (slice_index text (length text - 1) == letter_z)
    && all_digits (take (length text - 2) (drop 1 text))

abbrev pub to_the_second : List ℕ
to_the_second = codes "0000-00-00T00:00:00"

abbrev pub has_fraction : List ℕ → Bool
has_fraction text = fits to_the_second (take 19 text) && is_fraction (drop 19 text)

-- how many bytes the date and the time have, without fraction and `Z`
unfoldable pub date_length : List ℕ → Option ℕ
date_length text =
    if fits (codes "0000") text then Some 4
    else (if fits (codes "0000-00") text then Some 7
    else (if fits (codes "0000-00-00") text then Some 10
    else (if fits (codes "0000-00-00T00:00Z") text then Some 16
    else (if fits (codes "0000-00-00T00:00:00Z") text then Some 19
    else (if has_fraction text then Some 19 else None)))))

-- the date and time whose first n bytes the text gives: an absent month or day is 01, an absent hour, minute or second
-- 00
abbrev pub full_date : List ℕ → ℕ → List ℕ
full_date text n = take n text ++ drop n (codes "0000-01-01T00:00:00")

-- the number of two digits
abbrev pub two : List ℕ → ℕ → ℕ
two text i = 10 * (slice_index text i - digit_0) + (slice_index text (i + 1) - digit_0)

abbrev pub year_of : List ℕ → ℕ
year_of text = 100 * two text 0 + two text 2

-- the date exists, and no hour is over 23, no minute or second over 59
abbrev pub is_moment : List ℕ → Bool
is_moment whole =
    is_date (year_of whole) (two whole 5) (two whole 8)
    && nat_le (two whole 11) 23 && nat_le (two whole 14) 59 && nat_le (two whole 17) 59

-- the fourteen digits of a date and time
abbrev pub digits_of : List ℕ → List ℕ
digits_of whole =
    slice_index whole 0 ∷ slice_index whole 1 ∷ slice_index whole 2 ∷ slice_index whole 3 ∷ slice_index whole 5 ∷
    slice_index whole 6 ∷ slice_index whole 8
    ∷ slice_index whole 9 ∷ slice_index whole 11 ∷ slice_index whole 12 ∷ slice_index whole 14 ∷ slice_index whole 15 ∷
    slice_index whole 17 ∷ slice_index whole 18 ∷ []

abbrev pub stamp_from : List ℕ → Option ℕ → Result (List ℕ) HeadFault
stamp_from text None = Err faults.BadDate
stamp_from text (Some n) = if is_moment (full_date text n) then Ok (digits_of (full_date text n)) else
    Err faults.BadDate

-- the stamp of a date text
unfoldable pub stamp_of : List ℕ → Result (List ℕ) HeadFault
stamp_of text = stamp_from text (date_length text)
