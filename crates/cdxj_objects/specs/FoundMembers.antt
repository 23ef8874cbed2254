-- What a line takes from a JSON object: the value of each of its members, the last one of its name.
use Rattle.std.specs.Prelude.{ℕ, List, [], length, decimal, Option, None, Some, option_map}
use Rattle.std.specs.Prelude.{option_and_then}
use Rattle.json.specs.Token.{Token}
use Rattle.json.specs.Json.{parse_map, items, members, value, if_last}
use Rattle.serde_json.specs.Data.{Num, unsigned, negative, float, Data, null, boolean, number, string, array, object}
use Rattle.serde_json.specs.Data.{Members as JsonMembers, no_members}
use Rattle.serde_json.specs.Find.{get_member}
use Rattle.serde_json.specs.Read.{of_json, of_items, of_members, converted, max_depth, read}
use Rattle.cdxj_objects.specs.declared.members.Members.{Members}
use Rattle.cdxj_objects.specs.ObjectMembers.{map_members, names}

abbrev pub number_data : Num → Data
number_data (unsigned n) = number (unsigned n)
number_data (negative z) = null
number_data (float x) = null

-- a member's value, with null for what is neither a text nor an unsigned 64-bit number
abbrev pub member_data : Data → Data
member_data null = null
member_data (boolean b) = null
member_data (number n) = number_data n
member_data (string s) = string s
member_data (array ds) = null
member_data (object ms) = null

-- the text that a member has as it stands: a text, a number in decimal, and nothing for all else
abbrev pub raw_text : Option Data → List ℕ
raw_text None = []
raw_text (Some null) = []
raw_text (Some (boolean b)) = []
raw_text (Some (number (unsigned n))) = decimal n
raw_text (Some (number (negative z))) = []
raw_text (Some (number (float x))) = []
raw_text (Some (string s)) = s
raw_text (Some (array ds)) = []
raw_text (Some (object ms)) = []

abbrev pub FoundValue : Type 0
FoundValue = Members (Option Data)

abbrev pub found_at : JsonMembers → List ℕ → Option Data
found_at ms name = option_map member_data (get_member name ms)

abbrev pub found_of : JsonMembers → FoundValue
found_of ms = map_members (found_at ms) names

abbrev pub object_found : Data → Option FoundValue
object_found null = None
object_found (boolean b) = None
object_found (number n) = None
object_found (string s) = None
object_found (array ds) = None
object_found (object ms) = Some (found_of ms)

-- what is found in a text that is an object
abbrev pub members_in : List ℕ → Option FoundValue
members_in text = option_and_then object_found (read text)

-- ---- the same of tokens

-- what is found in the tokens of an object, if no token follows
abbrev pub object_read : List Token → Option FoundValue
object_read ts = option_and_then object_found (option_and_then of_json
    (option_and_then (λ p. if_last p.0 p.1) (value max_depth ts)))

-- a value, and the tokens after it
abbrev pub value_read : ℕ → List Token → Option (Data × List Token)
value_read depth ts = parse_map member_data (converted of_json (value depth ts))

-- what follows the items of an array
abbrev pub items_passed : ℕ → List Token → Option (List Token)
items_passed depth ts = option_map (λ p. p.1)
    (converted of_items (items (value depth) (length ts) ts))

-- the members of an object, and the tokens after it
abbrev pub members_read : ℕ → List Token → Option (JsonMembers × List Token)
members_read depth ts = converted (λ ms. of_members ms no_members)
    (members (value depth) (length ts) ts)

-- what follows the members of an object
abbrev pub members_passed : ℕ → List Token → Option (List Token)
members_passed depth ts = option_map (λ p. p.1) (members_read depth ts)

-- what is found in the members of a line's object, each at most 126 deep, and the tokens after it
abbrev pub members_found : List Token → Option (FoundValue × List Token)
members_found ts = parse_map found_of (members_read 126 ts)
