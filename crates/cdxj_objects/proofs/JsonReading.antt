-- Tokens that are read for a value, for items and for members, a turn at a time.
use Rattle.std.proofs.Common.{◌≡◌, ℕ, ◌-◌, ◌<◌, ◌≤◌, List, ◌∷◌, length, Option, Some, None}
use Rattle.std.proofs.Common.{option_map, ap, arith}
use Rattle.json.specs.Token.{Token}
use Rattle.json.specs.Json as json
use Rattle.json.specs.Json.{parse_map, after_end_array, read_key, items, members, value}
use Rattle.json.proofs.Grammar.{left, members_no_key, value_is, value-begin_array, value-begin_object}
use Rattle.json.proofs.Grammar.{items_end as no_more_items}
use Rattle.json.proofs.Grammar.{items_more, members_end as no_more_members, members_more}
use Rattle.serde_json.specs.Data.{Data, null, Members, put}
use Rattle.serde_json.specs.Read.{number_of, of_json, of_items, of_members, converted}
use Rattle.cdxj_objects.specs.FoundMembers.{number_data, member_data, value_read, members_passed}

-- ---- a value, by its first token

abbrev pub seen : Option (json.Json × List Token) → Option (Data × List Token)
seen o = parse_map member_data (converted of_json o)

pub read_null : (depth : ℕ) (r : List Token) → value_read depth (Token.null ∷ r) ≡ Some (null, r)
read_null depth r = ap seen (value_is depth (Token.null ∷ r))

pub read_number : (depth : ℕ) (s : List ℕ) (r : List Token) (found : Option Data) → found ≡ option_map number_data
    (number_of s) → value_read depth (Token.number s ∷ r) ≡ option_map (λ d. (d, r)) found
read_number depth s r found e = grind (arith, value_is)

pub read_object : (depth : ℕ) (ts : List Token) → 0 < depth → value_read depth (Token.begin_object ∷ ts) ≡ option_map
    (λ r. (null, r)) (members_passed (depth - 1) ts)
read_object depth ts h = grind (arith, value-begin_object)

pub no_array : (depth : ℕ) (ts : List Token) → depth ≡ 0 → value_read depth (Token.begin_array ∷ ts) ≡ None
unfolding value
no_array depth ts e = grind arith

pub no_object : (depth : ℕ) (ts : List Token) → depth ≡ 0 → value_read depth (Token.begin_object ∷ ts) ≡ None
unfolding value
no_object depth ts e = grind arith

-- ---- what was read, and its data

-- a value that is seen was parsed, and has data
pub record Parsed (o : Option (json.Json × List Token)) (v : Data) (r : List Token) : Type 0 where
  pub json : json.Json
  pub found : Data
  pub is : o ≡ Some (json, r)
  pub converts : of_json json ≡ Some found
  pub kept : member_data found ≡ v

parsed : (o : Option (json.Json × List Token)) (v : Data) (r : List Token) → seen o ≡ Some (v, r) → Parsed o v r
parsed o v r e = grind arith

-- ---- items

abbrev pub items_left : ℕ → ℕ → List Token → Option (List Token)
items_left depth n ts = left (converted of_items (items (value depth) n ts))

pub item_passed : (depth n : ℕ) (ts r : List Token) (v : Data) → 0 < n → after_end_array ts ≡ None
    → value_read depth ts ≡ Some (v, r) → items_left depth n ts ≡ items_left depth (n - 1) r
item_passed depth n ts r v some going e =
    let p = parsed (value depth ts) v r e in
    let more = items_more (value depth) n ts r p.json some going p.is in
    grind (arith)

pub item_not_passed : (depth n : ℕ) (ts : List Token) → after_end_array ts ≡ None → value_read depth ts ≡ None
    → items_left depth n ts ≡ None
unfolding items
item_not_passed depth n ts going e = grind arith

-- ---- members

-- the members of the tokens, put after those that were found
abbrev pub members_from : ℕ → ℕ → Members → List Token → Option (Members × List Token)
members_from depth n found ts = converted (λ ms. of_members ms found) (members (value depth) n ts)

after_member : (k : List ℕ) (j : json.Json) (d : Data) (found : Members) → of_json j ≡ Some d
    → (o : Option (json.Members × List Token))
    → converted (λ ms. of_members ms found) (parse_map (json.member k j) o) ≡ converted
    (λ ms. of_members ms (put k d found)) o
after_member k j d found e o = grind arith

pub member_put : (depth n : ℕ) (found : Members) (k : List ℕ) (ts s r : List Token) (v : Data) → 0 < n
    → read_key ts ≡ Some (Some k, s) → value_read depth s ≡ Some (v, r)
    → (d : Data) × (member_data d ≡ v) × (members_from depth n found ts ≡ members_from depth (n - 1) (put k d found) r)
member_put depth n found k ts s r v some key e =
    let p = parsed (value depth s) v r e in
    let more = members_more (value depth) n k ts s r p.json some key p.is in
    grind (arith, after_member k p.json p.found found p.converts)

pub no_member : (depth n : ℕ) (found : Members) (k : List ℕ) (ts s : List Token) → read_key ts ≡ Some (Some k, s)
    → value_read depth s ≡ None → members_from depth n found ts ≡ None
unfolding members
no_member depth n found k ts s key e = grind arith

pub members_end : (depth n : ℕ) (found : Members) (ts r : List Token) → length ts ≤ n → read_key ts ≡ Some (None, r)
    → members_from depth n found ts ≡ Some (found, r)
members_end depth n found ts r enough e = grind (arith, no_more_members)

-- ---- what the readers cite

pub ruleset value_rules =
    (read_null, read_number, read_object, no_array, no_object, value_is, value-begin_array)

pub ruleset item_rules = (item_not_passed, no_more_items)

pub ruleset member_rules = (members_no_key, no_member, members_end)
