-- Lists, and lists of sources and inputs, seen as one list of pairs.
use Rattle.merge_core.proofs.Words.{[], ℕ, ◌+◌, ◌-◌, ◌<◌, ◌∷◌, ◌≡◌, ◌≤◌, AllByRecursion, AllZip, Bool, CursorState}
use Rattle.merge_core.proofs.Words.{Ghosts, List, Moved, ap, arith, cond-true, filter, filter-append, get_or}
use Rattle.merge_core.proofs.Words.{get_or-map, get_or-zip, length, length-append, length-zip, map, map-set}
use Rattle.merge_core.proofs.Words.{nil_from_length, set, set-get_or, suc, sum-map, sum_by-set, take, take-append-drop}
use Rattle.merge_core.proofs.Words.{true, unread, zip}

-- ---- lists that are filtered, and what holds of each of a list

-- what a filter lets through, of things that have a property
pub each_filter : {X : Type 0} (A : X → Type 0) (f : X → Bool) (xs : List X) → AllByRecursion A xs
    → AllByRecursion (λ x. A x × (f x ≡ true)) (filter f xs)
each_filter A f [] h = tt
each_filter A f (x ∷ xs) h = grind (arith, each_filter A f xs h.1)

pub filter_fewer : {X : Type 0} (f g : X → Bool) (xs : List X) → length (filter g (filter f xs)) ≤ length (filter g xs)
filter_fewer f g [] = omega arith
filter_fewer f g (x ∷ xs) = grind (arith, filter_fewer f g xs)

pub filter_weaker : {X : Type 0} (f g : X → Bool) (xs : List X) → AllByRecursion (λ x. f x ≡ true → g x ≡ true) xs
    → length (filter f xs) ≤ length (filter g xs)
filter_weaker f g [] h = omega arith
filter_weaker f g (x ∷ xs) h = grind (arith, cond-true, filter_weaker f g xs h.1)

pub filter_front : {X : Type 0} (f : X → Bool) (n : ℕ) (xs : List X)
    → length (filter f (take n xs)) ≤ length (filter f xs)
filter_front f n xs = let whole = take-append-drop n xs in grind (arith, filter-append f (take n xs), length-append)

pub each_take : {X : Type 0} (A : X → Type 0) (n : ℕ) (xs : List X) → AllByRecursion A xs → AllByRecursion A (take n xs)
each_take A (suc n) (x ∷ xs) h = (h.0, each_take A n xs h.1)
each_take A n xs h = tt

pub each_both : {X : Type 0} (A B : X → Type 0) (xs : List X) → AllByRecursion A xs → AllByRecursion B xs
    → AllByRecursion (λ x. A x × B x) xs
each_both A B [] h k = tt
each_both A B (x ∷ xs) h k = ((h.0, k.0), each_both A B xs h.1 k.1)

-- ---- lists of sources and inputs, seen as one list of pairs

pub zip_set : {A B : Type 0} (xs : List A) (ys : List B) (i : ℕ) (x : A) (y : B) → zip (set xs i x) (set ys i y)
    ≡ set (zip xs ys) i (x, y)
zip_set (a ∷ xs) (b ∷ ys) (suc i) x y = ap (λ l. (a, b) ∷ l) (zip_set xs ys i x y)
zip_set xs ys i x y = grind arith

pub zip_at : {A B : Type 0} (xs : List A) (ys : List B) (i : ℕ) (a : A) (b : B) → length xs ≡ length ys → i < length xs
    → get_or (zip xs ys) i (a, b) ≡ (get_or xs i a, get_or ys i b)
zip_at xs ys i a b e l = get_or-zip xs ys i (a, b) l (omega arith)

pub length_zip : {A B : Type 0} (xs : List A) (ys : List B) → length xs ≡ length ys → length (zip xs ys) ≡ length xs
length_zip xs ys e = grind (arith, length-zip)

pub map_set_same : {X Y : Type 0} (f : X → Y) (xs : List X) (i : ℕ) (d y : X) → i < length xs → f y ≡ f (get_or xs i d)
    → map f (set xs i y) ≡ map f xs
map_set_same f xs i d y l e = rw (map-set, e, ← get_or-map f xs i d (f d) l) (set-get_or (map f xs) i (f d))

pub two_same : {X : Type 0} (R : X → X → Type 0) → ((x : X) → R x x) → (xs : List X) → AllZip R xs xs
two_same R same [] = tt
two_same R same (x ∷ xs) = (same x, two_same R same xs)

pub two_put : {X Y : Type 0} (R : X → Y → Type 0) (xs : List X) (ys : List Y) (i : ℕ) (d : X) (y : Y) → AllZip R xs ys
    → R (get_or xs i d) y → AllZip R xs (set ys i y)
two_put R (x ∷ xs) (z ∷ ys) (suc i) d y h r = grind (arith, two_put R xs ys i)
two_put R xs ys i d y h r = grind arith

two_trans : {X : Type 0} (R : X → X → Type 0) → ((x y z : X) → R x y → R y z → R x z) → (xs ys zs : List X)
    → AllZip R xs ys → AllZip R ys zs → AllZip R xs zs
two_trans R t (x ∷ xs) (y ∷ ys) (z ∷ zs) h k = (t x y z h.0 k.0, two_trans R t xs ys zs h.1 k.1)
two_trans R t xs ys zs h k = grind arith

-- One source and its cursor change
module _ {S : Type 0} (device : Ghosts S) where
  abbrev pub Move : S × CursorState → S × CursorState → Type 0
  Move x y = Moved device x.0 y.0 x.1 y.1

  pub moved_trans : (xs ys zs : List (S × CursorState)) → AllZip Move xs ys → AllZip Move ys zs → AllZip Move xs zs
  moved_trans = two_trans Move (λ x y z a b. grind arith)

  pub moved_still : (xs : List (S × CursorState)) → AllZip Move xs xs
  moved_still = two_same Move (λ x. grind arith)

  module _ (ss : List S) (cs : List CursorState) (i : ℕ) (a s : S) (b c : CursorState) (same : length ss ≡ length cs)
      (inside : i < length ss) where
    pub moved_set : Move (get_or ss i a, get_or cs i b) (s, c) → AllZip Move (zip ss cs) (zip (set ss i s) (set cs i c))
    moved_set m =
        rw (zip_set ss cs i s c) (two_put Move (zip ss cs) (zip ss cs) i (a, b) (s, c) (moved_still (zip ss cs))
        (grind (arith, zip_at)))

    -- how many bytes weren't read
    pub unread_set : unread device.extent (set ss i s) (set cs i c) + (device.extent (get_or ss i a) - (get_or cs i b).at)
        ≡ unread device.extent ss cs + (device.extent s - c.at)
    unread_set =
        let sums = sum_by-set (λ (x : S × CursorState). device.extent x.0 - x.1.at) (zip ss cs) i (s, c) (a, b) in
        grind (arith, zip_set, zip_at, length_zip, sum-map)

-- ---- one list beside another

-- what each of the one has, by what it has to do with the other, and by what each of that has
pub each_beside : {X Y : Type 0} (R : X → Y → Type 0) (P : X → Type 0) (Q : Y → Type 0)
    → ((x : X) (y : Y) → R x y → P x → Q y) → (xs : List X) (ys : List Y) → AllZip R xs ys → AllByRecursion P xs
    → AllByRecursion Q ys
each_beside R P Q f (x ∷ xs) (y ∷ ys) h k = (f x y h.0 k.0, each_beside R P Q f xs ys h.1 k.1)
each_beside R P Q f xs ys h k = grind arith

pub each_by : {X Y : Type 0} (R : X → Y → Type 0) (Q : Y → Type 0) → ((x : X) (y : Y) → R x y → Q y) → (xs : List X)
    (ys : List Y) → AllZip R xs ys → AllByRecursion Q ys
each_by R Q f (x ∷ xs) (y ∷ ys) h = (f x y h.0, each_by R Q f xs ys h.1)
each_by R Q f xs ys h = grind arith

-- what holds of the second of each pair
pub each_second : {X Y : Type 0} (P : Y → Type 0) (xs : List X) (ys : List Y) → length xs ≡ length ys
    → AllByRecursion (λ x. P x.1) (zip xs ys) → AllByRecursion P ys
each_second P (x ∷ xs) (y ∷ ys) same h = (h.0, each_second P xs ys (omega arith) h.1)
each_second P xs ys same h = grind (arith, nil_from_length)

-- ---- one of a list is replaced

pub each_replaced : {X : Type 0} (P : X → Type 0) (xs : List X) (i : ℕ) (y : X) → AllByRecursion P xs → P y
    → AllByRecursion P (set xs i y)
each_replaced P (x ∷ xs) (suc i) y h p = (h.0, each_replaced P xs i y h.1 p)
each_replaced P xs i y h p = grind arith
