-- What is found in an object, as its members and its tokens are read.
use Rattle.std.proofs.Common.{◌≡◌, ℕ, Bool, true, false, refl, List, ◌∷◌, length, Option, Some, None}
use Rattle.std.specs.Prelude.{bytes_eq, if◌then◌else◌}
use Rattle.std.proofs.Common.{option_map, option_and_then, ap, sym, ◌∙◌, arith}
use Rattle.std.proofs.lemmas.Slice.Eq.{bytes_eq-Decides}
use Rattle.json.specs.Token.{Token}
use Rattle.json.specs.Json as json
use Rattle.json.specs.Json.{parse_map, value, members, if_last}
use Rattle.json.specs.Reads.{token_of, Yields}
use Rattle.json.specs.declared.token.Token.TheVariants as read
use Rattle.json.specs.declared.token.Token.{Token as ReadToken}
use Rattle.json.proofs.Grammar.{value_is, value-begin_array, value-begin_object}
use Rattle.serde_json.specs.Data.{Data, Members as JsonMembers, put}
use Rattle.serde_json.specs.Read.{of_json}
use Rattle.serde_json.proofs.Views.{get_member-put, get_member-put_other}
use Rattle.cdxj_objects.specs.FoundMembers.{FoundValue, member_data, found_of, object_found, object_read}
use Rattle.cdxj_objects.specs.declared.members.Members.{Members}
use Rattle.cdxj_objects.specs.declared.member_value.MemberValue.{MemberValue}
use Rattle.cdxj_objects.specs.FoundViews.{value_view}
use Rattle.cdxj_objects.specs.ObjectMembers.{map_members, names, with_named, zip_members}

-- ---- a member that is put

pub found_put : (k : List ℕ) (d : Data) (ms : JsonMembers) → found_of (put k d ms) ≡ with_named k
    (Some (member_data d)) (found_of ms)
found_put k d ms = grind (arith, bytes_eq-Decides, get_member-put, get_member-put_other)

named_if : {A B : Type 0} (f : A → B) (b : Bool) (x y : A) → f (if b then x else y) ≡ (if b then f x else f y)
named_if f true x y = refl
named_if f false x y = refl

-- a value that is put at a name, seen by a function
pub named_seen : {A B : Type 0} (f : A → B) (name : List ℕ) (a : A) (m : Members A) → map_members f (with_named name a m)
    ≡ with_named name (f a) (map_members f m)
named_seen f name a m = λ i. zip_members (λ its old. named_if f (bytes_eq name its) a old i) names m

-- a value that is put at a name, in code and in an object
pub found_seen : (name : List ℕ) (value : MemberValue) (d : Data) (m : Members (Option MemberValue)) (ms : JsonMembers)
    → member_data d ≡ value_view value → map_members (option_map value_view) m ≡ found_of ms
    → map_members (option_map value_view) (with_named name (Some value) m) ≡ found_of (put name d ms)
found_seen name value d m ms same seen =
    named_seen (option_map value_view) name (Some value) m ∙ ap (with_named name (Some (value_view value))) seen
    ∙ ap (λ x. with_named name (Some x) (found_of ms)) (sym same) ∙ sym (found_put name d ms)

-- ---- the tokens of the object

-- what is found in a value after which no token follows
abbrev whole_found : Option (json.Json × List Token) → Option FoundValue
whole_found o = option_and_then object_found (option_and_then of_json (option_and_then (λ p. if_last p.0 p.1) o))

other : (token : ReadToken) (ts : List Token) → (token ≡ read.BeginObject → ⊥) → object_read (token_of token ∷ ts) ≡
    None
other token ts h = grind (arith, value_is, value-begin_array)

-- tokens that don't begin with a brace are no object
pub no_brace : (first : Option ReadToken) (ts rest : List Token) → Yields ts first rest
    → (first ≡ Some read.BeginObject → ⊥) → object_read ts ≡ None
no_brace first ts rest h never = grind (arith, value_is, other)

pub opened : (ts : List Token) → object_read (Token.begin_object ∷ ts) ≡ whole_found
    (parse_map json.object (members (value 126) (length ts) ts))
opened ts = grind (arith, value-begin_object)
