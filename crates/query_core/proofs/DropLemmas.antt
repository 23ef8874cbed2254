-- Merges of indexes without the lines of some file names.
use Rattle.query_core.proofs.Words.{[], ℕ, ◌∷◌, ◌≡◌, AllByRecursion, AllZip, Bool, IsIndex, List, Member, Ordering, Rises}
use Rattle.query_core.proofs.Words.{PlaceValue, all_lines, ap, arith, collection, each_filter, each_weaker, false, filter, is_gt}
use Rattle.query_core.proofs.Words.{lines_text, map, member_place, place_cmp, place_cmp_total, put, refl, rises_filter}
use Rattle.query_core.proofs.Words.{rises_rising, rising, true}
use Rattle.std.proofs.Common.{Equal, Greater, Less}
use Rattle.std.specs.Cmp.{IsTotalOrder}
use Rattle.cdxj_places.specs.Rising.{choose}
use Rattle.std.proofs.lemmas.List.Elements.{filter-append}
use Rattle.cdxj_places.proofs.{PlaceOrder.same_place, RisingLaws.is_gt-true}
use Rattle.query_core.proofs.PageIndexes.{collection_rows, rows_index}
use Rattle.query_core.specs.MergeLaws.{of_files}

-- ---- what a test of places keeps of the list that rises by place

module _ {X P : Type 0} (place : X → P) (R : P → P → Ordering) (o : IsTotalOrder R) (kept : X → Bool)
    (alike : (x y : X) → R (place x) (place y) ≡ Equal → kept x ≡ kept y) where
  -- y is above x
  abbrev is_over : X → X → Type 0
  is_over x y = is_gt (R (place y) (place x)) ≡ true

  below : (x y : X) → is_over x y → R (place x) (place y) ≡ Less
  below x y h = grind (arith, is_gt-true)

  over_trans : (x y z : X) → R (place x) (place y) ≡ Less → is_over y z → is_over x z
  over_trans x y z h k = grind arith

  put_in_front : (x : X) (ys : List X) → AllByRecursion (is_over x) ys → put place R x ys ≡ x ∷ ys
  put_in_front x [] h = refl
  put_in_front x (y ∷ ys) h = grind (arith, below)

  put_kept : (x : X) (ys : List X) → kept x ≡ true → Rises place R ys
      → filter kept (put place R x ys) ≡ put place R x (filter kept ys)
  put_kept x [] k h = grind arith
  put_kept x (y ∷ ys) k h =
      (elim (R (place x) (place y)) as (λ r. R (place x) (place y) ≡ r
      → filter kept (choose r (x ∷ y ∷ ys) (x ∷ ys) (y ∷ put place R x ys))
      ≡ put place R x (filter kept (y ∷ ys))) [
        | Less ↦ (λ e.
            let over : AllByRecursion (is_over x) (y ∷ ys) =
            (grind arith, each_weaker (λ z. over_trans x y z e) ys h.0) in
            let front = put_in_front x (filter kept (y ∷ ys)) (each_filter (is_over x) kept (y ∷ ys) over) in cc)
        | Equal ↦ (λ e. grind (arith, Equal, alike))
        | Greater ↦ (λ e. grind (arith, Less, Equal, put_kept x ys k h.1))
      ]) refl

  put_left : (x : X) (ys : List X) → kept x ≡ false → filter kept (put place R x ys) ≡ filter kept ys
  put_left x [] k = grind arith
  put_left x (y ∷ ys) k = grind (arith, alike, put_left x ys k)

  pub rising_kept : (xs : List X) → filter kept (rising place R xs) ≡ rising place R (filter kept xs)
  rising_kept [] = refl
  rising_kept (x ∷ xs) = grind (arith, put_kept, rises_rising, put_left, rising_kept xs)

-- ---- file names

kept_lines : (is_kept : List ℕ → Bool) (indexes : List (List Member))
    → of_files is_kept (all_lines indexes) ≡ all_lines (map (of_files is_kept) indexes)
kept_lines is_kept [] = refl
kept_lines is_kept (i ∷ indexes) = grind (arith, filter-append, kept_lines is_kept indexes)

-- lines at one place have one file name
one_file : (is_kept : List ℕ → Bool) (m n : Member) → place_cmp (member_place m) (member_place n) ≡ Equal
    → is_kept m.values.filename ≡ is_kept n.values.filename
one_file is_kept m n e = ap (λ (p : PlaceValue). is_kept p.filename) (same_place (member_place m) (member_place n) e)

pub merges_drop : (is_kept : List ℕ → Bool) (indexes : List (List Member))
    → of_files is_kept (collection indexes) ≡ collection (map (of_files is_kept) indexes)
merges_drop is_kept indexes =
    let kept = rising_kept member_place place_cmp place_cmp_total (λ (m : Member). is_kept m.values.filename)
    (one_file is_kept) (all_lines indexes) in
    grind (arith, kept_lines is_kept indexes)

pub kept_index : (limit : ℕ) (is_kept : List ℕ → Bool) (texts : List (List ℕ)) (indexes : List (List Member))
    → AllZip (IsIndex limit) texts indexes
    → IsIndex limit (lines_text (of_files is_kept (collection indexes))) (of_files is_kept (collection indexes))
kept_index limit is_kept texts indexes are =
    grind (arith, rows_index, each_filter, collection_rows limit texts indexes are, rises_filter, rises_rising, place_cmp_total)
