-- The laws of pages.
use Rattle.std.proofs.Common.{◌≡◌, ℕ, zero, suc, ◌<◌, List, [], ◌∷◌, ◌++◌, Bool, true, false, cond, length, take, drop}
use Rattle.std.proofs.Common.{refl, sym, ap, ◌∙◌, subst, arith, Ordering, Less, Greater, is_gt, filter}
use Rattle.std.proofs.Common.{Some, None, Option, take-append-drop, append-nil, length-drop, length-take}
use Rattle.std.specs.List.{AllByRecursion, flat_map}
use Rattle.std.specs.Cmp.{IsTotalOrder}
use Rattle.std.proofs.lemmas.Cmp.{tied_itself}
use Rattle.std.proofs.lemmas.Bool.{cond-false}
use Rattle.cdxj_places.specs.Rising.{IsIn, Rises}
use Rattle.cdxj_places.proofs.RisingLaws.{each_at}
use Rattle.page_core.specs.Pages.{Page, AllPositive, later_sizes, first_size, is_above, end_place, kept}
use Rattle.page_core.specs.Pages.{collapsed, next_after, page_of, IsChain, FullButLast}

-- a filter that all pass
pub filter_all : {X : Type 0} (f : X → Bool) (xs : List X) → AllByRecursion (λ y. f y ≡ true) xs → filter f xs ≡ xs
filter_all f [] h = refl
filter_all f (x ∷ xs) h = grind (arith, filter_all f xs h.1)

-- a filter over another that lets all of it pass
pub filter_filter : {X : Type 0} (f g : X → Bool) (h : (x : X) → f x ≡ true → g x ≡ true) (xs : List X)
    → filter f (filter g xs) ≡ filter f xs
filter_filter f g h [] = refl
filter_filter f g h (x ∷ xs) = grind (arith, filter_filter f g h xs)

pub each_filter : {X : Type 0} (A : X → Type 0) (f : X → Bool) (xs : List X) → AllByRecursion A xs
    → AllByRecursion A (filter f xs)
each_filter A f [] h = tt
each_filter A f (x ∷ xs) h = grind (arith, each_filter A f xs h.1)

pub first_positive : (sizes : List ℕ) → AllPositive sizes → 0 < first_size sizes
first_positive sizes h = grind arith

pub later_positive : (sizes : List ℕ) → AllPositive sizes → AllPositive (later_sizes sizes)
later_positive sizes h = grind arith

module _ {X P : Type 0} (place : X → P) (R : P → P → Ordering) (o : IsTotalOrder R) where
  pub gt_back : (a b : P) → R a b ≡ Greater → R b a ≡ Less
  gt_back a b h = grind arith

  pub rises_filter : (f : X → Bool) (l : List X) → Rises place R l → Rises place R (filter f l)
  rises_filter f [] h = tt
  rises_filter f (x ∷ xs) h = grind (arith, each_filter, rises_filter f xs h.1)

module _ {X P : Type 0} (place : X → P) (R : P → P → Ordering) (same : P → P → Bool) (o : IsTotalOrder R) where
  above_itself : (x : X) → is_above place R (Some (place x)) x ≡ false
  above_itself x = ap is_gt (tied_itself o (place x))

  pub above_trans : (x : X) (m : X) (p : Option P) → is_above place R p m ≡ true → is_above place R (Some (place m)) x ≡
      true → is_above place R p x ≡ true
  above_trans x m p h k = grind arith

  -- what is above the one is not below it
  pub above_not_below : (x m : X) → is_above place R (Some (place x)) m ≡ true → is_above place R (Some (place m)) x ≡
      false
  above_not_below x m h = grind arith

  pub each_kept : (A : X → Type 0) (p : Option P) (xs : List X) → AllByRecursion A xs
      → AllByRecursion A (kept place same p xs)
  each_kept A p [] h = tt
  each_kept A p (x ∷ xs) h = grind (arith, each_kept A (Some (place x)) xs h.1)

  pub rises_kept : (p : Option P) (l : List X) → Rises place R l → Rises place R (kept place same p l)
  rises_kept p [] h = tt
  rises_kept p (x ∷ xs) h = grind (arith, each_kept, rises_kept (Some (place x)) xs h.1)

  pub rises_collapsed : (l : List X) (p : Option P) → Rises place R l → Rises place R (collapsed place R same l p)
  rises_collapsed l p h = grind (arith, rises_kept, rises_filter)

  in_kept : (m : X) (p : Option P) (xs : List X) → IsIn m (kept place same p xs) → IsIn m xs
  in_kept m p [] i = i
  in_kept m p (x ∷ xs) i = grind (arith, in_kept m (Some (place x)) xs)

  in_filter : (f : X → Bool) (m : X) (xs : List X) → IsIn m (filter f xs) → f m ≡ true
  in_filter f m [] i = absurd i
  in_filter f m (x ∷ xs) i = grind (arith, in_filter f m xs)

  -- The members above one that is kept, collapsed from it on, are those that were kept above it
  resumes : (p : Option P) (m : X) (xs : List X) → Rises place R xs → IsIn m (kept place same p xs)
      → kept place same (Some (place m)) (filter (is_above place R (Some (place m))) xs) ≡ filter
      (is_above place R (Some (place m))) (kept place same p xs)
  resumes p m [] h i = refl
  resumes p m (x ∷ xs) h i =
      let below : IsIn m (kept place same (Some (place x)) xs) → is_above place R (Some (place m)) x ≡ false =
      λ j. above_not_below x m (each_at _ m xs h.0 (in_kept m (Some (place x)) xs j)) in
      let later : (b : Bool) → IsIn m (kept place same (Some (place x)) xs) → kept place same (Some (place m))
      (filter (is_above place R (Some (place m))) (x ∷ xs)) ≡ filter (is_above place R (Some (place m)))
      (cond b (kept place same (Some (place x)) xs) (x ∷ kept place same (Some (place x)) xs)) =
      λ b j. ap (kept place same (Some (place m))) (cond-false _ _ _ (below j)) ∙ resumes (Some (place x)) m xs h.1 j ∙
      elim b as (λ b. filter (is_above place R (Some (place m))) (kept place same (Some (place x)) xs) ≡ filter
      (is_above place R (Some (place m))) (cond b (kept place same (Some (place x)) xs)
      (x ∷ kept place same (Some (place x)) xs))) [ true ↦ refl | false ↦ sym (cond-false _ _ _ (below j)) ] in
      let here : (e : x ≡ m) → kept place same (Some (place m)) (filter (is_above place R (Some (place m))) (x ∷ xs)) ≡
      filter (is_above place R (Some (place m))) (x ∷ kept place same (Some (place x)) xs) =
      λ e. subst (λ (m : X). kept place same (Some (place m)) (filter (is_above place R (Some (place m))) (x ∷ xs)) ≡
      filter (is_above place R (Some (place m))) (x ∷ kept place same (Some (place x)) xs)) e
      (grind (arith, cond-false, above_itself, filter_all, each_kept)) in
      grind arith

  -- The law of collapsing: it goes on from each of its members as it began
  pub collapse_resumes : (l : List X) (p : Option P) (m : X) → Rises place R l → IsIn m (collapsed place R same l p)
      → collapsed place R same l (Some (place m)) ≡ filter (is_above place R (Some (place m)))
      (collapsed place R same l p)
  collapse_resumes l p m h i =
      let up : is_above place R p m ≡ true = grind (arith, in_filter, in_kept) in
      grind (arith, filter_filter, above_trans, resumes, rises_filter)

  -- where no place follows the n-th member, the first n are all
  pub all_taken : (n : ℕ) (c : List X) → 0 < n → next_after place n c ≡ None → take n c ≡ c
  all_taken (suc (suc n)) (x ∷ xs) z h = grind (arith, all_taken (suc n) xs)
  all_taken n c z h = grind arith

  -- where one follows, it is that of a member, the page is full, and the members above it are the rest
  pub split_there : (n : ℕ) (c : List X) (q : P) → Rises place R c → next_after place n c ≡ Some q
      → (m : X) × IsIn m c × (place m ≡ q) × (length (take n c) ≡ n)
      × (filter (is_above place R (Some (place m))) c ≡ drop n c)
  split_there (suc (suc n)) (x ∷ xs) q r h = grind (arith, above_not_below, each_at, split_there (suc n) xs q r.1 h)
  split_there n c q r h = grind (arith, filter_all)

  pub chain_law : (l : List X) (p : Option P) (sizes : List ℕ) (pages : List (Page X P)) → Rises place R l
      → AllPositive sizes
      → IsChain place R same l p sizes pages
      → (flat_map (λ (g : Page X P). g.members) pages ≡ collapsed place R same l p) × FullButLast sizes pages
  chain_law l p sizes (page ∷ other ∷ more) r z h =
      let later = λ (q : P). chain_law l (Some q) (later_sizes sizes) (other ∷ more) r (later_positive sizes z) in
      grind (arith, split_there, rises_collapsed, collapse_resumes, take-append-drop)
  chain_law l p sizes pages r z h = grind (arith, append-nil, all_taken)

  -- there is a chain, and only one
  pub chain_one : (l : List X) (p : Option P) (sizes : List ℕ) (us vs : List (Page X P)) → IsChain place R same l p
      sizes us → IsChain place R same l p sizes vs → us ≡ vs
  chain_one l p sizes (a ∷ us) (b ∷ vs) h k =
      let rest = λ (q : P). chain_one l (Some q) (later_sizes sizes) us vs in grind arith
  chain_one l p sizes us vs h k = grind arith

  chain_at : (fuel : ℕ) (l : List X) (p : Option P) (sizes : List ℕ) → Rises place R l → AllPositive sizes
      → length (collapsed place R same l p) < fuel
      → (pages : List (Page X P)) × IsChain place R same l p sizes pages
  chain_at zero l p sizes r z f = absurd (omega arith)
  chain_at (suc fuel) l p sizes r z f =
      (elim (next_after place (first_size sizes) (collapsed place R same l p)) as
      (λ v. next_after place (first_size sizes) (collapsed place R same l p) ≡ v → (pages : List (Page X P))
      × IsChain place R same l p sizes pages) [
        | None ↦ (λ e. (page_of place R same l p (Some (first_size sizes)) ∷ [], grind arith))
        | Some q ↦ (λ e.
            let s = split_there (first_size sizes) (collapsed place R same l p) q (rises_collapsed l p r) e in
            let pos = first_positive sizes z in
            let less : length (collapsed place R same l (Some q)) < fuel =
            grind (arith, collapse_resumes, length-drop, length-take) in
            let k = chain_at fuel l (Some q) (later_sizes sizes) r (later_positive sizes z) less in
            (page_of place R same l p (Some (first_size sizes)) ∷ k.0, grind arith))
      ]) refl

  pub chain_there : (l : List X) (p : Option P) (sizes : List ℕ) → Rises place R l → AllPositive sizes
      → (pages : List (Page X P)) × IsChain place R same l p sizes pages
  chain_there l p sizes r z = chain_at (suc (length (collapsed place R same l p))) l p sizes r z (omega arith)

  -- Collapsing goes on from where it stands: what a stream of groups keeps
  pub kept_append : (p : Option P) (us vs : List X) → kept place same p (us ++ vs) ≡ kept place same p us
      ++ kept place same (end_place place p us) vs
  kept_append p [] vs = refl
  kept_append p (u ∷ us) vs = grind (arith, kept_append (Some (place u)) us vs)
