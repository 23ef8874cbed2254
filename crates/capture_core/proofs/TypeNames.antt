-- The names of types, cut at the first comma.
use Rattle.std.proofs.Common.{◌≡◌, ◌<◌, ℕ, List, [], ◌∷◌, Option, Some, length}
use Rattle.std.proofs.Common.{arith, option_and_then}
use Rattle.std.specs.List.{slice_split, position_or_len}
use Rattle.std.proofs.lemmas.List.Splits.{slice_split_none, length-slice_split}
use Rattle.std.proofs.lemmas.List.Sums.{fails_before_first}
use Rattle.warc_core.specs.Kind.{Kind}
use Rattle.warc_core.specs.Kind.kinds
use Rattle.capture_core.specs.declared.types.Types.{Types}
use Rattle.capture_core.specs.Types.{HasType, is_comma, no_types, plus_kind, with_kind, with_name, with_names}
use Rattle.std.proofs.lemmas.List.Splits.{slice_split_first}

last_of : (o : Option Types) → option_and_then (λ types. with_names types []) o ≡ o
last_of o = grind arith

-- the only name of a text without commas
pub only_name : (types : Types) (names : List ℕ) → position_or_len is_comma names ≡ length names
    → with_names types (slice_split is_comma names) ≡ with_name types names
only_name types names e = grind (arith, slice_split_none, fails_before_first, last_of (with_name types names))

-- ---- a set that is read has a type

plus-has : (types : Types) (kind : Kind) (more : Types) → plus_kind types kind ≡ Some more → HasType more
plus-has types kinds.Response more e = (kinds.Response, grind arith)
plus-has types kinds.Resource more e = (kinds.Resource, grind arith)
plus-has types kinds.Revisit more e = (kinds.Revisit, grind arith)
plus-has types kinds.Conversion more e = (kinds.Conversion, grind arith)
plus-has types kinds.Metadata more e = (kinds.Metadata, grind arith)
plus-has types kind more e = absurd (cc)

found-has : (kind : Option Kind) (types more : Types) → option_and_then (with_kind types) kind ≡ Some more → HasType more
found-has kind types more e = grind (arith, plus-has)

named-has : (types : Types) (name : List ℕ) (more : Types) → with_name types name ≡ Some more → HasType more
unfolding with_name
named-has types name more e = found-has _ types more e

-- the types of some names, where the first gives a set that has a type, or ends the reading
then-has : (first : Option Types) (names : List (List ℕ)) (types : Types)
    → ((more : Types) → first ≡ Some more → HasType more)
    → ((more : Types) → HasType more → with_names more names ≡ Some types → HasType types)
    → option_and_then (λ more. with_names more names) first ≡ Some types → HasType types
then-has first names types f g e = grind arith

still-has : (names : List (List ℕ)) (more types : Types) → HasType more → with_names more names ≡ Some types
    → HasType types
still-has [] more types h e = grind arith
still-has (name ∷ names) more types h e = then-has (with_name more name) names types (named-has more name)
    (λ next. still-has names next types) e

pub names-have : (names : List (List ℕ)) (types : Types) → 0 < length names → with_names no_types names ≡ Some types
    → HasType types
names-have [] types some e = absurd (omega arith)
names-have (name ∷ names) types some e = then-has (with_name no_types name) names types
    (named-has no_types name) (λ next. still-has names next types) e

pub ruleset read_rules = (names-have, length-slice_split)

pub ruleset names_rules = (only_name, slice_split_first)
