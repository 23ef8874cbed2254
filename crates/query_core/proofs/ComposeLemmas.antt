-- Merges of merges, and of indexes in another order.
use Rattle.query_core.proofs.Words.{[], ◌++◌, ◌↔◌, ◌∷◌, ◌≡◌, ◌⊎◌, AllByRecursion, IsFirst, IsIn, List, Member, Ordering}
use Rattle.query_core.proofs.Words.{QueryValue, Rises, all_lines, ap, append_assoc, arith, collection, each_at}
use Rattle.query_core.proofs.Words.{each_rising, flat_map, inl, inr, member_place, place_cmp, place_cmp_total, put}
use Rattle.query_core.proofs.Words.{refl, rises_rising, rising, rising_members, rising_same, selected}
use Rattle.query_core.specs.{MergeLaws.HaveOneLine, QueryLaws.SelectedAreFirst}
use Rattle.std.proofs.Common.{Equal}
use Rattle.std.specs.Cmp.{IsTotalOrder}
use Rattle.std.proofs.lemmas.Cmp.{tied_back}

-- ---- what rises already may stand in the stead of a list

module _ {X P : Type 0} (place : X → P) (R : P → P → Ordering) (o : IsTotalOrder R) where
  -- none of the list has the place of x
  abbrev Absent : X → List X → Type 0
  Absent x us = AllByRecursion (λ y. R (place x) (place y) ≡ Equal → ⊥) us

  absent_put : (x y : X) (c : List X) → Absent x (put place R y c) → (R (place x) (place y) ≡ Equal → ⊥) × Absent x c
  absent_put x y [] h = (h.0, tt)
  absent_put x y (z ∷ zs) h = grind (arith, o.congr, tied_back o, absent_put x y zs)

  absent_rising : (x : X) (us : List X) → Absent x (rising place R us) → Absent x us
  absent_rising x [] h = tt
  absent_rising x (u ∷ us) h = let r = absent_put x u (rising place R us) h in (r.0, absent_rising x us r.1)

  -- the first with its place of two lists
  first_of : (x : X) (us vs : List X) → IsFirst place R x (us ++ vs) → IsFirst place R x us
      ⊎ (Absent x us × IsFirst place R x vs)
  first_of x [] vs h = inr (tt, h)
  first_of x (u ∷ us) vs h = grind (arith, first_of x us vs)

  of_first : (x : X) (us vs : List X) → IsFirst place R x us ⊎ (Absent x us × IsFirst place R x vs)
      → IsFirst place R x (us ++ vs)
  of_first x [] vs h = grind arith
  of_first x (u ∷ us) vs h = grind (arith, of_first x us vs)

  pub in_list : (x : X) (us : List X) → IsFirst place R x us → IsIn x us
  in_list x [] h = h
  in_list x (u ∷ us) h = grind (arith, in_list x us)

  -- of a rising list each is the first with its place
  is_first : (x : X) (us : List X) → Rises place R us → IsIn x us → IsFirst place R x us
  is_first x [] h i = i
  is_first x (u ∷ us) h i = grind (arith, each_at, is_first x us h.1)

  -- what rises already may stand in the stead of a list
  pub rising_left : (us vs : List X) → rising place R (rising place R us ++ vs) ≡ rising place R (us ++ vs)
  rising_left us vs =
      rising_same place R o (rising place R (rising place R us ++ vs)) (rising place R (us ++ vs))
      (grind (arith, rises_rising)) (rises_rising place R o (us ++ vs)) (λ x.
      let of_both = of_first x us vs in
      let both_of = first_of x us vs in
      let of_rising = of_first x (rising place R us) vs in
      let rising_of = first_of x (rising place R us) vs in
      grind (arith, rising_members, is_first, rises_rising, in_list, absent_rising, each_rising))

  pub rising_right : (xs us vs : List X) → rising place R us ≡ rising place R vs → rising place R (xs ++ us)
      ≡ rising place R (xs ++ vs)
  rising_right [] us vs e = e
  rising_right (x ∷ xs) us vs e = ap (put place R x) (rising_right xs us vs e)

  pub rising_parts : (parts : List (List X)) → rising place R (flat_map (rising place R) parts)
      ≡ rising place R (flat_map (λ part. part) parts)
  rising_parts [] = refl
  rising_parts (part ∷ parts) = grind (arith, rising_left, rising_right, rising_parts parts)

pub lines_join : (some others : List (List Member)) → all_lines (some ++ others) ≡ all_lines some ++ all_lines others
lines_join [] others = refl
lines_join (i ∷ some) others = grind (arith, append_assoc, lines_join some others)

pub merges_group : (before some after : List (List Member))
    → collection (before ++ collection some ∷ after) ≡ collection (before ++ (some ++ after))
merges_group before some after = grind (arith, lines_join, rising_left, place_cmp_total, rising_right)

-- with one line at each place, each is the first at its place
first_at_place : (m : Member) (lines : List Member) → HaveOneLine lines → IsIn m lines
    → IsFirst member_place place_cmp m lines
first_at_place m (n ∷ lines) one i = grind (arith, first_at_place m lines)
first_at_place m lines one i = grind arith

-- what is in the one collection is in the other
in_other : (these those : List (List Member)) → HaveOneLine (all_lines these) → HaveOneLine (all_lines those)
    → ((m : Member) → IsIn m (all_lines these) → IsIn m (all_lines those)) → (m : Member)
    → IsIn m (collection these) → IsIn m (collection those)
in_other these those one other same m i =
    let first = (rising_members member_place place_cmp place_cmp_total m (all_lines these)).0 i in
    let there = same m (in_list member_place place_cmp place_cmp_total m (all_lines these) first) in
    (rising_members member_place place_cmp place_cmp_total m (all_lines those)).1
    (first_at_place m (all_lines those) other there)

pub merges_commute : (these those : List (List Member)) → HaveOneLine (all_lines these)
    → ((m : Member) → IsIn m (all_lines these) ↔ IsIn m (all_lines those)) → collection these ≡ collection those
merges_commute these those one same =
    let other : HaveOneLine (all_lines those) = λ m n i j. one m n ((same m).1 i) ((same n).1 j) in
    rising_same member_place place_cmp place_cmp_total (collection these) (collection those)
    (rises_rising member_place place_cmp place_cmp_total (all_lines these))
    (rises_rising member_place place_cmp place_cmp_total (all_lines those))
    (λ m. (in_other these those one other (λ n. (same n).0) m, in_other those these other one (λ n. (same n).1) m))

-- ---- more lines

pub added : SelectedAreFirst → (q : QueryValue) (some others : List (List Member)) (m : Member)
    → IsIn m (selected q (collection some)) → IsIn m (selected q (collection (some ++ others)))
added are q some others m i =
    let f = (are q some m).0 i in
    let first = of_first member_place place_cmp place_cmp_total m (all_lines some) (all_lines others) (inl f.0) in
    let back = are q (some ++ others) m in grind (arith, lines_join)

pub ruleset merges_compose = (merges_commute, merges_group)
