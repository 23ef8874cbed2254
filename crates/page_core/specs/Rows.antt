-- How one capture is written in each output.
use Rattle.std.specs.Prelude.{ℕ, ◌+◌, ◌/◌, ◌%◌, ◌==◌, ◌||◌, Bool, nat_lt, nat_le, List, [], ◌∷◌, ◌++◌, flat_map, codes}
use Rattle.std.specs.Prelude.{if◌then◌else◌}
use Rattle.std.specs.List.{join_by}
use Rattle.json.specs.Print.{quoted}
use Rattle.cdxj_places.specs.Bytes.{line_feed, space, quote, delete}
use Rattle.cdxj_core.specs.declared.field.Field.{Field}
use Rattle.cdxj_core.specs.Lines.{field_value}
use Rattle.cdxj_core.specs.Members.{Member}

-- the value of a field
abbrev pub row_value : Member → Field → List ℕ
row_value m field = field_value field m.values

-- a digit of base 16, as `0` to `9` and `A` to `F`
abbrev pub hex_digit : ℕ → ℕ
hex_digit d = if nat_lt d 10 then 48 + d else 55 + d

-- a space, a control or the delete
abbrev pub is_hidden : ℕ → Bool
is_hidden b = nat_le b space || (b == delete)

-- such a byte as `%XX`, and every other as it is
abbrev pub escaped_byte : ℕ → List ℕ
escaped_byte b =
    if is_hidden b then codes "%" ++ hex_digit (b / 16) ∷ hex_digit (b % 16) ∷ [] else b ∷ []

abbrev pub escaped : List ℕ → List ℕ
escaped text = flat_map escaped_byte text

-- the values, with one space between
abbrev pub text_row : List Field → Member → List ℕ
text_row fields m = join_by (λ f. escaped (row_value m f)) (codes " ") fields ++ line_feed ∷ []

-- a text between quotes as it stands
abbrev pub between_quotes : List ℕ → List ℕ
between_quotes text = quote ∷ (text ++ quote ∷ [])

-- texts between brackets, with a comma between
abbrev pub json_row : List (List ℕ) → List ℕ
json_row texts = codes "[" ++ (join_by quoted (codes ",") texts ++ codes "]")
