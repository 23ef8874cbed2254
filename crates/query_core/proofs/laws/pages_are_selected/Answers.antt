use Rattle.query_core.proofs.Words.{[], ◌↔◌, ◌∷◌, ◌≡◌, Bool, IsIn, List, Member, None, Option, PlaceValue, Some}
use Rattle.query_core.proofs.Words.{all_lines, arith, collection, filter, kept, matches, member_place, place_cmp}
use Rattle.query_core.proofs.Words.{place_cmp_total, refl, rises_filter, rises_rising, rising_members, same_part, true}
use Rattle.query_core.proofs.laws.pages_are_selected.Goals as goal

pub returns-clause-rise : goal.returns-clause-rise
returns-clause-rise c = λ q indexes. grind (arith, rises_filter, place_cmp_total, rises_rising)

-- what is in a list and passes a test is in what is left of it, and nothing else is
filter_members : (f : Member → Bool) (m : Member) (l : List Member) → IsIn m (filter f l) ↔ (IsIn m l × (f m ≡ true))
filter_members f m [] = grind arith
filter_members f m (x ∷ l) = grind (arith, filter_members f m l)

kept_all : (place : Option PlaceValue) (lines : List Member) → kept member_place (same_part None) place lines ≡ lines
kept_all place [] = refl
kept_all place (m ∷ lines) = grind (arith, kept_all (Some (member_place m)) lines)

pub returns-clause-members : goal.returns-clause-members
returns-clause-members c = λ q indexes m.
    let lines = filter_members (λ m. matches q m.values) m (collection indexes) in
    let first = rising_members member_place place_cmp place_cmp_total m (all_lines indexes) in
    grind arith

pub returns-clause-plain : goal.returns-clause-plain
returns-clause-plain c = grind (arith, kept_all)
