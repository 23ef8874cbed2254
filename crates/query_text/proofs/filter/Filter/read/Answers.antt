use Rattle.std.proofs.Common.{arith, ◌≡◌, ◌<◌, ◌∙◌, ℕ, Bool, true, false, List, [], ◌∷◌, Some, ap, length, refl, sym}
use Rattle.std.specs.List.{after_first, before_first, list_any, position_or_len}
use Rattle.cdxj_core.specs.Fields.{field_named}
use Rattle.query_text.specs.declared.filter.Test.{Test}
use Rattle.query_text.specs.Filters.{filter_of, filter_on, is_colon}
use Rattle.query_text.specs.Readings.{Text}
use Rattle.query_text.proofs.filter.Filter.read.Goals.{In-Some}
use Rattle.query_text.proofs.filter.Filter.read.Goals as goal

none_is : (p : ℕ → Bool) (xs : List ℕ) → position_or_len p xs ≡ length xs → list_any p xs ≡ false
none_is p [] h = refl
none_is p (x ∷ xs) h = grind (arith, none_is p xs)

pub returns-in_default : goal.returns-in_default
returns-in_default c = grind (arith, none_is is_colon c.args.condition.now)

some_is : (p : ℕ → Bool) (xs : List ℕ) → position_or_len p xs < length xs → list_any p xs ≡ true
some_is p [] h = absurd (omega arith)
some_is p (x ∷ xs) h = grind (arith, some_is p xs)

cut : (test : Test) (condition name text : Text) → name ≡ before_first is_colon condition
    → text ≡ after_first is_colon condition → position_or_len is_colon condition < length condition
    → filter_of test condition ≡ filter_on test text (field_named name)
cut test condition name text n t some = rw (n, t, some_is is_colon condition some) refl

cut_there : (c : In-Some) → filter_of c.args.test c.args.condition.now
    ≡ filter_on c.args.test c.in-Some.text.now (field_named c.in-Some.name.now)
cut_there c =
    let found = c.in-Some.ensures.byte (omega arith) (λ w o f. f) in
    cut _ _ _ _ found.0 found.1 found.2

pub returns-in_default-field_named : goal.returns-in_default-field_named
returns-in_default-field_named c = λ other. cut_there (goal.at.returns-in_default-field_named c).In-Some
    ∙ ap (filter_on c.args.test c.in-Some.text.now) (sym c.field_named.ensures ∙ c.in_default-field_named.is)

pub returns : goal.returns
returns c = cut_there (goal.at.returns c).In-Some
    ∙ ap (filter_on c.args.test c.in-Some.text.now) (sym c.field_named.ensures ∙ c.in-Some-field_named.is)
    ∙ ap (λ text. filter_on c.args.test text (Some c.in-Some-field_named.field)) (sym c.in_ok-text.ensures.ok)
