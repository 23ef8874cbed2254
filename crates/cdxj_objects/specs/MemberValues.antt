-- What the value of a member of a line's object says.
use Rattle.std.specs.Prelude.{◌≡◌, ℕ, ◌^◌, ◌<◌, ◌==◌, nat_lt, List, length, decimal, Option, Some, None, if◌then◌else◌}
use Rattle.std.specs.Str.Parse.{digits_value}
use Rattle.serde_json.specs.Data.{Num, unsigned, negative, float, Data, null, boolean, number, string, array, object}
use Rattle.cdxj_places.specs.Places.{offset_of}
use Rattle.cdxj_objects.specs.Texts.{missing, or_missing}

abbrev pub number_value : Num → List ℕ
number_value (unsigned n) = decimal n
number_value (negative z) = missing
number_value (float x) = missing

-- a member's value: a text as it is, a number that fits 64 bits in decimal, and `-` for all else
abbrev pub value_text : Option Data → List ℕ
value_text None = missing
value_text (Some null) = missing
value_text (Some (boolean b)) = missing
value_text (Some (number n)) = number_value n
value_text (Some (string s)) = or_missing s
value_text (Some (array ds)) = missing
value_text (Some (object ms)) = missing

-- the file name: a text that is not empty
abbrev pub filename_value : Option Data → Option (List ℕ)
filename_value None = None
filename_value (Some null) = None
filename_value (Some (boolean b)) = None
filename_value (Some (number n)) = None
filename_value (Some (string s)) = if length s == 0 then None else Some s
filename_value (Some (array ds)) = None
filename_value (Some (object ms)) = None

abbrev pub offset_number : Num → Option ℕ
offset_number (unsigned n) = if nat_lt n (2 ^ 63) then Some n else None
offset_number (negative z) = None
offset_number (float x) = None

-- the offset: a number below 2^63, or its digits as a text
abbrev pub offset_value : Option Data → Option ℕ
offset_value None = None
offset_value (Some null) = None
offset_value (Some (boolean b)) = None
offset_value (Some (number n)) = offset_number n
offset_value (Some (string s)) = offset_of s
offset_value (Some (array ds)) = None
offset_value (Some (object ms)) = None

-- a number below 2^63, as it is written in decimal
pub record IsDecimal (s : List ℕ) : Type 0 where
  pub is : s ≡ decimal (digits_value 10 s)
  pub small : digits_value 10 s < 2 ^ 63
