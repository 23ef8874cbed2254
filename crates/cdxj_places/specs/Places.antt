-- Places: their order, their form text, and the place that a text names.
use Rattle.std.specs.Prelude.{◌≡◌, ℕ, ◌^◌, ◌<◌, ◌&&◌, Bool, true, nat_lt, nat_le, List, ◌∷◌, ◌++◌, length, decimal, All}
use Rattle.std.specs.Prelude.{Option, Some, None, if◌then◌else◌}
use Rattle.std.specs.List.{list_all, before_first, after_first, before_last, after_last}
use Rattle.std.specs.Char.{is_ascii_digit}
use Rattle.std.specs.Str.{IsUtf8}
use Rattle.std.specs.Str.Lossy.{utf8_lossy}
use Rattle.std.specs.Str.Parse.{digits_value}
use Rattle.std.specs.Ordering.{nat_cmp, ordering_then}
use Rattle.std.specs.declared.cmp.Ordering.{Ordering}
use Rattle.std.specs.Cmp.Lexicographic.{slice_cmp}
use Rattle.form_urlencoded.specs.Form.{decode, byte_serialize}
use Rattle.cdxj_places.specs.Bytes.{space}
use Rattle.cdxj_places.specs.Pair.{is_space, is_key, is_stamp}

-- what a place is: three texts and a number
pub record PlaceValue : Type 0 where
  pub key : List ℕ
  pub stamp : List ℕ
  pub filename : List ℕ
  pub offset : ℕ

-- the rules that each place keeps
pub record IsPlace (p : PlaceValue) : Type 0 where
  pub key : is_key p.key ≡ true
  pub utf8_key : IsUtf8 p.key
  pub stamp : is_stamp p.stamp ≡ true
  pub filename : 0 < length p.filename
  pub utf8_filename : IsUtf8 p.filename
  pub offset : p.offset < 2 ^ 63
  pub key_bytes : All (λ b. b < 256) p.key
  pub filename_bytes : All (λ b. b < 256) p.filename

-- by key, then stamp, then file name, each by its bytes, then offset as a number
abbrev pub place_cmp : PlaceValue → PlaceValue → Ordering
place_cmp p q =
    ordering_then (slice_cmp nat_cmp p.key q.key)
    (ordering_then (slice_cmp nat_cmp p.stamp q.stamp)
    (ordering_then (slice_cmp nat_cmp p.filename q.filename) (nat_cmp p.offset q.offset)))

-- the four parts, with a space between
abbrev pub place_text : PlaceValue → List ℕ
place_text p = p.key ++ space ∷ (p.stamp ++ space ∷ (p.filename ++ space ∷ decimal p.offset))

-- the text of a place as a form writes it
abbrev pub resume_text : PlaceValue → List ℕ
resume_text p = byte_serialize (place_text p)

-- 1 to 19 digits of a value below 2^63
abbrev pub is_offset : List ℕ → Bool
is_offset digits =
    nat_lt 0 (length digits) && nat_le (length digits) 19 && list_all is_ascii_digit digits
    && nat_lt (digits_value 10 digits) (2 ^ 63)

-- the number that the digits write, where it is an offset
abbrev pub offset_of : List ℕ → Option ℕ
offset_of digits = if is_offset digits then Some (digits_value 10 digits) else None

-- the four parts are those of a place
abbrev pub are_parts : List ℕ → List ℕ → List ℕ → List ℕ → Bool
are_parts key stamp filename digits =
    is_key key && is_stamp stamp && nat_lt 0 (length filename) && is_offset digits

-- the place with these parts, where they are those of one
abbrev pub place_from : List ℕ → List ℕ → List ℕ → List ℕ → Option PlaceValue
place_from key stamp filename digits =
    if are_parts key stamp filename digits
    then Some (record {
      key = key;
      stamp = stamp;
      filename = filename;
      offset = digits_value 10 digits;
    })
    else None

-- what stands after the first two spaces
abbrev pub last_parts : List ℕ → List ℕ
last_parts text = after_first is_space (after_first is_space text)

-- the place that a decoded text names: its parts stand around the first two spaces and the last
unfoldable pub place_in : List ℕ → Option PlaceValue
place_in text =
    place_from (before_first is_space text) (before_first is_space (after_first is_space text))
    (before_last is_space (last_parts text)) (after_last is_space (last_parts text))

-- the place that a resume text names
abbrev pub resume_place : List ℕ → Option PlaceValue
resume_place text = place_in (utf8_lossy (decode text))
