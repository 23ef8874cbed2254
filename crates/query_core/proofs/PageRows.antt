-- The lines of a page, in each output.
use Rattle.query_core.proofs.Words.{[], ℕ, ◌++◌, ◌+◌, ◌-◌, ◌<◌, ◌∷◌, ◌≡◌, AllByRecursion, BeginsWithBracket, Bool}
use Rattle.query_core.proofs.Words.{Field, HasEntry, LINE_LIMIT, LineValue, List, Member, Option, PlaceValue, Some}
use Rattle.query_core.proofs.Words.{append_assoc, arith, codes, cond, each_join, each_weaker, eqb-true, escaped, false}
use Rattle.query_core.proofs.Words.{flat_map, has_no_feed, is_key, is_stamp, length, length-append, lines, lines_front}
use Rattle.query_core.proofs.Words.{list_all-append, map, nat_tests, option_map, refl, resume_text, row_value, suc}
use Rattle.query_core.proofs.Words.{text_row, true, zero}
use Rattle.std.proofs.lemmas.List.Elements.{recursion_from_All}
use Rattle.std.specs.Prelude.{◌==◌, option_and_then}
use Rattle.form_urlencoded.proofs.FormLemmas.{All-byte_serialize, IsSerializedByte, byte_serialize-append}
use Rattle.form_urlencoded.proofs.FormLemmas.{byte_serialize-cons}
use Rattle.cdxj_places.specs.Places.{place_text}
use Rattle.page_core.specs.{PageText.json_page, PageText.key_rows, PageText.later_row, Rows.escaped_byte, Rows.json_row}
use Rattle.json.specs.Print.{escape, escape_byte, quoted}
use Rattle.cdxj_core.specs.{Fields.field_name, Lines.field_value, Lines.line_from, Lines.object_values}
use Rattle.std.proofs.Common.{decimal}
use Rattle.std.specs.Fmt.{digits, digits_onto}
use Rattle.serde_json.specs.{Data.Data, Read.read}
use Rattle.cdxj_objects.specs.MemberValues.{value_text}
use Rattle.cdxj_core.proofs.MemberLemmas.{entry_valued}

-- ---- no value of a line that has an entry is empty

digits_more : (k base : ℕ) (upper : Bool) (n : ℕ) (acc : List ℕ) → 0 < length acc
    → 0 < length (digits_onto k base upper n acc)
digits_more zero base upper n acc h = h
digits_more (suc k) base upper n acc h = grind (arith, digits_more k base upper)

digits_some : (k base : ℕ) (upper : Bool) (n : ℕ) (acc : List ℕ) → 0 < length (digits_onto (suc k) base upper n acc)
digits_some k base upper n acc = grind (arith, digits_more k base upper)

decimal_some : (n : ℕ) → 0 < length (decimal n)
unfolding digits
decimal_some n = digits_some 63 10 false n []

text_some : (value : Option Data) → 0 < length (value_text value)
text_some value = grind (arith, decimal_some)

made : (filename : Option (List ℕ)) (offset : Option ℕ) (make : List ℕ → ℕ → LineValue) (v : LineValue)
    → option_and_then (λ f. option_map (make f) offset) filename ≡ Some v → (f : List ℕ) × (o : ℕ) × (v ≡ make f o)
made filename offset make v e = grind arith

object_some : (read_as : Option Data) (key stamp : List ℕ) (v : LineValue)
    → option_and_then (line_from key stamp) read_as ≡ Some v
    → (d : Data) × (f : List ℕ) × (o : ℕ) × (v ≡ object_values key stamp d f o)
object_some read_as key stamp v e = grind (arith, made)

-- the values of an object
of_field : (v : LineValue) (key stamp : List ℕ) (d : Data) (filename : List ℕ) (offset : ℕ) → is_key v.key ≡ true
    → is_stamp v.stamp ≡ true → 0 < length v.filename → v ≡ object_values key stamp d filename offset
    → (f : Field) → 0 < length (field_value f v)
of_field v key stamp d filename offset k s n e f = grind (arith, nat_tests, eqb-true, text_some, decimal_some)

pub value_some : (m : Member) → HasEntry m → (f : Field) → 0 < length (field_value f m.values)
value_some m h =
    let v = entry_valued LINE_LIMIT m.line m h in
    let o = object_some (read v.object) m.values.key m.values.stamp m.values v.values in
    of_field m.values m.values.key m.values.stamp o.0 o.1 o.2 v.key_rule v.stamp_rule v.filename_rule o.3

-- ---- lines

-- bytes without a line feed, and then one
abbrev pub IsLine : List ℕ → Type 0
IsLine row = (body : List ℕ) × (row ≡ body ++ 10 ∷ []) × (has_no_feed body ≡ true)

pub lines_joined : (rows : List (List ℕ)) → AllByRecursion IsLine rows → lines (flat_map (λ row. row) rows) ≡ rows
lines_joined [] h = refl
lines_joined (row ∷ rows) h = grind (arith, append_assoc, lines_front, lines_joined rows h.1)

feedless : (us vs : List ℕ) → has_no_feed us ≡ true → has_no_feed vs ≡ true → has_no_feed (us ++ vs) ≡ true
feedless us vs h k = grind (arith, list_all-append)

each_feedless : {X : Type 0} (f : X → List ℕ) → ((x : X) → has_no_feed (f x) ≡ true) → (xs : List X)
    → has_no_feed (flat_map f xs) ≡ true
each_feedless f h [] = refl
each_feedless f h (x ∷ xs) = feedless (f x) (flat_map f xs) (h x) (each_feedless f h xs)

-- ---- bytes above the space

abbrev Above : ℕ → Type 0
Above b = 32 < b

abbrev pub AllAbove : List ℕ → Type 0
AllAbove = AllByRecursion Above

above_no_feed : (text : List ℕ) → AllAbove text → has_no_feed text ≡ true
above_no_feed [] h = refl
above_no_feed (b ∷ text) h = grind (arith, nat_tests, above_no_feed text)

pub above_line : (text : List ℕ) → AllAbove text → IsLine (text ++ 10 ∷ [])
above_line text h = (text, refl, above_no_feed text h)

-- how many spaces
unfoldable pub spaces : List ℕ → ℕ
spaces [] = 0
spaces (b ∷ bs) = cond (b == 32) (suc (spaces bs)) (spaces bs)

pub spaces_join : (us vs : List ℕ) → spaces (us ++ vs) ≡ spaces us + spaces vs
unfolding spaces
spaces_join [] vs = omega arith
spaces_join (u ∷ us) vs = grind (arith, spaces_join us vs)

pub above_spaces : (text : List ℕ) → AllAbove text → spaces text ≡ 0
unfolding spaces
above_spaces [] h = refl
above_spaces (b ∷ text) h = grind (arith, nat_tests, above_spaces text)

-- ---- a row in text

byte_above : (b : ℕ) → AllAbove (escaped_byte b)
byte_above b = grind (arith, nat_tests, nat_tests)

byte_some : (b : ℕ) → 0 < length (escaped_byte b)
byte_some b = grind arith

escaped_above : (text : List ℕ) → AllAbove (escaped text)
escaped_above [] = tt
escaped_above (b ∷ text) = each_join Above (escaped_byte b) (escaped text) (byte_above b) (escaped_above text)

escaped_feedless : (text : List ℕ) → has_no_feed (escaped text) ≡ true
escaped_feedless text = above_no_feed (escaped text) (escaped_above text)

pub escaped_some : (text : List ℕ) → 0 < length text → 0 < length (escaped text)
escaped_some [] h = absurd (omega (arith, h))
escaped_some (b ∷ text) h = omega (arith, byte_some b, length-append (escaped_byte b) (escaped text))

-- the values after the first
abbrev later : Member → List Field → List ℕ
later m fields = flat_map (λ f. codes " " ++ escaped (row_value m f)) fields

later_spaces : (m : Member) (fields : List Field) → spaces (later m fields) ≡ length fields
unfolding spaces
later_spaces m [] = refl
later_spaces m (f ∷ fields) = grind (arith, spaces_join, above_spaces, escaped_above, later_spaces m fields)

pub text_line : (fields : List Field) (m : Member) → IsLine (text_row fields m)
text_line fields m = grind (arith, feedless, escaped_feedless, each_feedless)

pub text_spaces : (fields : List Field) (m : Member) → spaces (text_row fields m) ≡ length fields - 1
unfolding spaces
text_spaces [] m = refl
text_spaces (f ∷ fields) m = grind (arith, spaces_join, above_spaces, escaped_above, later_spaces m fields)

-- ---- a key

key_byte : (b : ℕ) → IsSerializedByte b → 32 < b
key_byte b h = grind arith

pub key_above : (place : PlaceValue) → AllAbove (resume_text place)
key_above place = each_weaker key_byte (resume_text place) (recursion_from_All _ _ (All-byte_serialize (place_text place)))

pub key_long : (place : PlaceValue) → 1 < length (resume_text place)
key_long place = grind (arith, byte_serialize-append, byte_serialize-cons, length-append)

-- ---- the lines in json

byte_feedless : (b : ℕ) → has_no_feed (escape_byte b) ≡ true
unfolding escape_byte
byte_feedless b = grind arith

quoted_feedless : (text : List ℕ) → has_no_feed (quoted text) ≡ true
quoted_feedless text = feedless (escape text) (34 ∷ []) (each_feedless escape_byte byte_feedless text) refl

-- what a row has after its bracket
abbrev inside : List (List ℕ) → List ℕ
inside [] = codes "]"
inside (t ∷ texts) = (quoted t ++ flat_map (λ t. codes "," ++ quoted t) texts) ++ codes "]"

row_is : (texts : List (List ℕ)) → json_row texts ≡ 91 ∷ inside texts
row_is texts = grind arith

inside_feedless : (texts : List (List ℕ)) → has_no_feed (inside texts) ≡ true
inside_feedless texts = grind (arith, each_feedless, quoted_feedless, feedless)

-- a row that stands after `front` on its line, and the rows after it
bracket_lines : (front : List ℕ) (others : List (List (List ℕ))) → has_no_feed front ≡ true
    → AllByRecursion BeginsWithBracket (lines ((91 ∷ front) ++ (flat_map later_row others ++ codes "]\n")))
bracket_lines front [] h =
    let one = lines_front (91 ∷ (front ++ codes "]")) [] (feedless front (codes "]") h refl) in
    grind (arith, append_assoc)
bracket_lines front (o ∷ others) h =
    let rest = flat_map later_row others ++ codes "]\n" in
    let one = lines_front (91 ∷ (front ++ codes ",")) ((91 ∷ inside o) ++ rest) (feedless front (codes ",") h refl) in
    let later = bracket_lines (inside o) others (inside_feedless o) in grind (arith, append_assoc, row_is)

pub json_lines : (fields : List Field) (ms : List Member) (key : Option (List ℕ))
    → AllByRecursion BeginsWithBracket (lines (json_page fields ms key))
json_lines fields ms key =
    let names = map field_name fields in
    let others = map (λ m. map (row_value m) fields) ms ++ key_rows key in
    let all = bracket_lines (91 ∷ inside names) others (inside_feedless names) in grind (arith, append_assoc, row_is)
