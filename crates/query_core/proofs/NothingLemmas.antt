-- The query that selects nothing, and is refused as another.
use Rattle.query_core.proofs.Words.{[], ℕ, ◌++◌, ◌<◌, ◌∷◌, ◌≡◌, ◌≤◌, Err, List, Member, Ok, QUERY_LIMIT, QueryValue}
use Rattle.query_core.proofs.Words.{TargetValue, ap, arith, codes, false, le-ltb, length, length-append}
use Rattle.query_core.proofs.Words.{list_all-append, matches, refl, selected, true}
use Rattle.std.proofs.{Common.◌==◌, Math.Bool.and-false}
use Rattle.std.specs.Prelude.{MatchResult}
use Rattle.std.specs.List.{onto_first, slice_split}
use Rattle.std.proofs.{lemmas.List.Splits.length-slice_split, lemmas.Str.IsUtf8-from_ascii}
use Rattle.cdxj_core.specs.{Fields.field_named, declared.field.Field.TheVariants.Urlkey}
use Rattle.query_text.specs.declared.filter.Test.TheVariants.{HasNot}
use Rattle.query_text.specs.{Filters.FilterValue, Filters.occurs, Parts.decoded, Readings.Read, Readings.and_then}
use Rattle.query_text.specs.Parameters.{ParameterValues, no_values, pieces_of, with_filter, with_piece, with_pieces}
use Rattle.query_text.specs.Queries.{query_with, target_of, with_target}
use Rattle.query_text.proofs.PlainTexts.{plain_text_stands}
use Rattle.query_core.specs.NothingAsked.{AppendedSelectsNothing, nothing}

-- ---- the pieces

onto_more : (b : ℕ) (parts : List (List ℕ)) (tail : List ℕ) → 0 < length parts
    → onto_first b (parts ++ tail ∷ []) ≡ onto_first b parts ++ tail ∷ []
onto_more b [] tail h = absurd (omega arith)
onto_more b (part ∷ parts) tail h = refl

split_more : (tail : List ℕ) → slice_split (λ b. b == 38) tail ≡ tail ∷ [] → (text : List ℕ)
    → slice_split (λ b. b == 38) (text ++ 38 ∷ tail) ≡ slice_split (λ b. b == 38) text ++ tail ∷ []
split_more tail one [] = ap (λ parts. [] ∷ parts) one
split_more tail one (b ∷ text) = grind (arith, split_more tail one text, onto_more, length-slice_split)

pieces_more : (text : List ℕ) → pieces_of (text ++ nothing) ≡ pieces_of text ++ codes "hasnot=urlkey:" ∷ []
pieces_more text = split_more (codes "hasnot=urlkey:") refl text

then_itself : {T : Type 0} (m : Read T) → and_then m (λ x. Ok x) ≡ m
then_itself (Ok x) = refl
then_itself (Err e) = refl

-- a reading and two steps after it
then_then : {T U : Type 0} (m : Read T) (f g : T → Read U) (h : U → Read U) → ((x : T) → f x ≡ and_then (g x) h)
    → and_then m f ≡ and_then (and_then m g) h
then_then (Ok x) f g h same = same x
then_then (Err e) f g h same = refl

with_more : (v : ParameterValues) (pieces : List (List ℕ)) (piece : List ℕ) → with_pieces v (pieces ++ piece ∷ [])
    ≡ and_then (with_pieces v pieces) (λ w. with_piece w piece)
with_more v [] piece = then_itself (with_piece v piece)
with_more v (p ∷ pieces) piece =
    then_then (with_piece v p) (λ next. with_pieces next (pieces ++ piece ∷ [])) (λ next. with_pieces next pieces)
    (λ w. with_piece w piece) (λ next. with_more next pieces piece)

-- ---- the condition

abbrev no_key : FilterValue
no_key = record { field = Urlkey; test = HasNot; text = [] }

name_is : decoded (codes "hasnot") ≡ codes "hasnot"
name_is = plain_text_stands (codes "hasnot") (IsUtf8-from_ascii (codes "hasnot") (grind arith)) refl

value_is : decoded (codes "urlkey:") ≡ codes "urlkey:"
value_is = plain_text_stands (codes "urlkey:") (IsUtf8-from_ascii (codes "urlkey:") (grind arith)) refl

condition_read : (w : ParameterValues) → with_piece w (codes "hasnot=urlkey:") ≡ Ok (with_filter w no_key)
unfolding field_named
condition_read w = rw (name_is, value_is) refl

-- ---- the query

occurs_always : (value : List ℕ) → occurs [] value ≡ true
occurs_always [] = refl
occurs_always (b ∷ value) = refl

none_selected : (q : QueryValue) (filters : List FilterValue) → q.filters ≡ filters ++ no_key ∷ []
    → (lines : List Member) → selected q lines ≡ []
none_selected q filters is [] = refl
none_selected q filters is (m ∷ lines) =
    let never : matches q m.values ≡ false =
    rw (is, list_all-append, occurs_always, and-false, and-false) refl in
    rw never (none_selected q filters is lines)

-- the second is read as a query that selects nothing if the first is read, and else is refused alike
abbrev Follows : Read QueryValue → Read QueryValue → Type 0
Follows one other = MatchResult one (λ q. (none : QueryValue) × (other ≡ Ok none)
    × ((lines : List Member) → selected none lines ≡ [])) (λ refusal. other ≡ Err refusal)

of_target : (w : ParameterValues) (t : Read TargetValue) → Follows (and_then t (λ x. Ok (with_target w x)))
    (and_then t (λ x. Ok (with_target (with_filter w no_key) x)))
of_target w (Ok x) =
    let none = with_target (with_filter w no_key) x in (none, refl, none_selected none w.filters refl)
of_target w (Err e) = refl

of_values : (m : Read ParameterValues) → Follows (and_then m query_with)
    (and_then (and_then m (λ w. with_piece w (codes "hasnot=urlkey:"))) query_with)
of_values (Ok w) = rw (condition_read w) (of_target w (target_of w.url w.key w.kind))
of_values (Err e) = refl

pub appended : AppendedSelectsNothing
appended text short =
    let within : length text ≤ QUERY_LIMIT = omega (arith, short, length-append text nothing) in
    rw (le-ltb _ _ within, le-ltb _ _ short, pieces_more, with_more) (of_values (with_pieces no_values (pieces_of text)))
