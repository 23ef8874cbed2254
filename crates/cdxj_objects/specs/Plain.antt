-- A plain object: seven members in the order and the spelling of a written line, with texts that
-- stand between their quotes as they are.
use Rattle.std.specs.Prelude.{◌≡◌, ℕ, ◌==◌, ◌&&◌, Bool, true, not, nat_le, nat_lt, List, [], ◌∷◌, ◌++◌, codes}
use Rattle.std.specs.List.{list_all}
use Rattle.json.specs.Run.{is_plain}
use Rattle.cdxj_places.specs.Bytes.{space, quote, backslash}
use Rattle.cdxj_objects.specs.declared.members.Members.{Members}
use Rattle.cdxj_objects.specs.ObjectMembers.{AllMembers, each, map_members, names, zip_members}
use Rattle.cdxj_objects.specs.Texts.{TextsValue, or_missing}

-- neither of two bytes
abbrev pub is_neither : ℕ → ℕ → ℕ → Bool
is_neither first second b = not (b == first) && not (b == second)

-- neither a quote nor a backslash
abbrev pub is_open : ℕ → Bool
is_open b = not (b == quote) && not (b == backslash)

-- no control
abbrev pub is_printable : ℕ → Bool
is_printable b = nat_le space b

-- the same for a character of ASCII
abbrev pub is_printable_ascii : ℕ → Bool
is_printable_ascii b = is_printable b && nat_lt b 128

-- the same, without a quote
abbrev pub is_plain_ascii : ℕ → Bool
is_plain_ascii b = is_plain b && nat_lt b 128

-- no text has a quote, a backslash or a control
abbrev pub ArePlain : TextsValue → Type 0
ArePlain = AllMembers (λ s. list_all is_plain s ≡ true)

-- `{"name": "`
abbrev pub first_front : List ℕ → List ℕ
first_front name = codes "{\"" ++ (name ++ codes "\": \"")

-- the quote of the text before it, and `, "name": "`
abbrev pub later_front : List ℕ → List ℕ
later_front name = codes "\", \"" ++ (name ++ codes "\": \"")

-- what stands before the text of each member
abbrev pub fronts : Members (List ℕ)
fronts = record (map_members later_front names) { url = first_front names.url }

-- texts behind their fronts, and the end of the object
abbrev pub pieces : List (List ℕ × List ℕ) → List ℕ
pieces [] = codes "\"}"
pieces ((front, text) ∷ rest) = front ++ (text ++ pieces rest)

abbrev pub plain_pieces : TextsValue → List (List ℕ × List ℕ)
plain_pieces t = each (zip_members (λ front text. (front, text)) fronts t)

abbrev pub plain_text : TextsValue → List ℕ
plain_text t = pieces (plain_pieces t)

-- the values that the texts stand for
abbrev pub values_of_texts : TextsValue → TextsValue
values_of_texts t = record (map_members or_missing t) { offset = t.offset; filename = t.filename }
