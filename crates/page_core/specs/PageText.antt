-- The text of a page, in the three outputs, with or without a printed key.
use Rattle.std.specs.Prelude.{◌≡◌, ℕ, List, [], ◌∷◌, ◌++◌, codes, flat_map, map, Option, None, Some}
use Rattle.std.specs.List.{join_by}
use Rattle.cdxj_places.specs.Bytes.{line_feed}
use Rattle.cdxj_core.specs.declared.field.Field.{Field}
use Rattle.page_core.specs.Form.{FormValue, Text, Cdxj, Json}
use Rattle.cdxj_core.specs.Members.{Member, line_row}
use Rattle.cdxj_core.specs.Fields.{field_name}
use Rattle.page_core.specs.Rows.{row_value, text_row, json_row}

-- an empty line and the key, where one is printed
abbrev pub key_lines : Option (List ℕ) → List ℕ
key_lines None = []
key_lines (Some key) = line_feed ∷ (key ++ line_feed ∷ [])

-- a row of nothing and a row of the key, where one is printed
abbrev pub key_rows : Option (List ℕ) → List (List (List ℕ))
key_rows None = []
key_rows (Some key) = [] ∷ (key ∷ []) ∷ []

-- the values of the fields, a line for each capture
abbrev pub text_page : List Field → List Member → Option (List ℕ) → List ℕ
text_page fields members key = flat_map (text_row fields) members ++ key_lines key

-- the lines as they stand
abbrev pub cdxj_page : List Member → Option (List ℕ) → List ℕ
cdxj_page members key = flat_map line_row members ++ key_lines key

-- one array of rows, the names of the fields first
abbrev pub json_page : List Field → List Member → Option (List ℕ) → List ℕ
json_page fields members key =
    codes "[" ++ (join_by json_row (codes ",\n")
    (map field_name fields ∷ map (λ m. map (row_value m) fields) members ++ key_rows key)
    ++ codes "]\n")

-- the text of a page
abbrev pub page_text : FormValue → List Member → Option (List ℕ) → List ℕ
page_text (Text fields) members key = text_page fields members key
page_text Cdxj members key = cdxj_page members key
page_text (Json fields) members key = json_page fields members key

-- ---- the same text in the pieces in which it is written

-- a row of a json page after another
abbrev pub later_row : List (List ℕ) → List ℕ
later_row texts = codes ",\n" ++ json_row texts

-- what stands before the first capture
abbrev pub page_start : FormValue → List ℕ
page_start (Text fields) = []
page_start Cdxj = []
page_start (Json fields) = codes "[" ++ json_row (map field_name fields)

-- what a capture adds
abbrev pub row_text : FormValue → Member → List ℕ
row_text (Text fields) m = text_row fields m
row_text Cdxj m = line_row m
row_text (Json fields) m = later_row (map (row_value m) fields)

-- what stands after the last capture
abbrev pub page_end : FormValue → Option (List ℕ) → List ℕ
page_end (Text fields) key = key_lines key
page_end Cdxj key = key_lines key
page_end (Json fields) key = flat_map later_row (key_rows key) ++ codes "]\n"

-- a page up to these captures, which is the front of each page that begins with them
abbrev pub begun : FormValue → List Member → List ℕ
begun form members = page_start form ++ flat_map (row_text form) members

-- a page is its start, its captures and its end
abbrev pub PageInPieces : Type 0
PageInPieces = (form : FormValue) (members : List Member) (key : Option (List ℕ))
    → page_text form members key ≡ begun form members ++ page_end form key

-- what was written so far stands at the front of each page that begins with these captures
abbrev pub BegunIsFront : Type 0
BegunIsFront = (form : FormValue) (members later : List Member) (key : Option (List ℕ))
    → (rest : List ℕ) × (page_text form (members ++ later) key ≡ begun form members ++ rest)
