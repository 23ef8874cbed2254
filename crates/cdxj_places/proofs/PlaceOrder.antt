-- Places are totally ordered.
use Rattle.std.proofs.Common.{arith, ◌≡◌, Equal}
use Rattle.std.specs.FinMap.{slice_cmp-IsAntisymmetric}
use Rattle.std.specs.Cmp.{IsTotalOrder}
use Rattle.std.proofs.lemmas.Cmp.{nat_cmp_total, nat_list_cmp_total, on_total, then_total}
use Rattle.cdxj_places.specs.Places.{PlaceValue, place_cmp}
use Rattle.cdxj_places.proofs.RisingLaws.{rising_members, rises_rising, rising_same, rising_split}

pub place_cmp_total : IsTotalOrder place_cmp
place_cmp_total =
    then_total (on_total (λ (p : PlaceValue). p.key) nat_list_cmp_total)
    (then_total (on_total (λ (p : PlaceValue). p.stamp) nat_list_cmp_total)
    (then_total (grind (arith, nat_list_cmp_total)) (on_total (λ (p : PlaceValue). p.offset) nat_cmp_total)))

-- places that compare as equal are the same
pub same_place : (p q : PlaceValue) → place_cmp p q ≡ Equal → p ≡ q
same_place p q e = grind (arith, slice_cmp-IsAntisymmetric)

pub ruleset order_rules = (place_cmp_total, same_place)

pub ruleset rising_rules = (rising_members, rises_rising, rising_same, rising_split, place_cmp_total)
