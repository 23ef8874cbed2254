-- The captures of lines that are taken one after another.
use Rattle.query_core.proofs.Words.{[], ℕ, ◌&&◌, ◌++◌, ◌+◌, ◌<◌, ◌∷◌, ◌≡◌, Bool, List, Member, Option, PlaceValue}
use Rattle.query_core.proofs.Words.{QueryValue, Some, append-nil, append_assoc, arith, bytes_eq-Decides, captures_over}
use Rattle.query_core.proofs.Words.{drop, end_place, false, filter, get_or, is_wanted, kept, length, map, map-append}
use Rattle.query_core.proofs.Words.{member_place, place_before, place_cmp_total, query_captures, refl, same_part, suc}
use Rattle.query_core.proofs.Words.{take, take-append-drop, true, true≢false}
use Rattle.std.proofs.{lemmas.Bool.cond-true, lemmas.List.Elements.filter-append, lemmas.List.map_more}
use Rattle.std.proofs.Common.{drop-cons}
use Rattle.page_core.specs.Pages.{repeats}
use Rattle.page_core.proofs.PageLaws.{kept_append}
use Rattle.query_core.specs.Collapsings.{CollapsingValue, collapsing_after, collapsing_at, repeats_part}

-- ---- two tests

pub filter_and : (f g : Member → Bool) (xs : List Member) → filter g (filter f xs) ≡ filter (λ m. f m && g m) xs
filter_and f g [] = refl
filter_and f g (x ∷ xs) = grind (arith, filter_and f g xs)

-- ---- the captures of more lines

-- what is wanted of these lines, collapsed
abbrev pub captures : QueryValue → List Member → List Member
captures q lines = captures_over q q.resume lines

pub captures_are : (q : QueryValue) (lines : List Member) → query_captures q lines ≡ captures q lines
captures_are q lines = grind (arith, filter_and)

pub end_last : (p : Option PlaceValue) (us : List Member) (m : Member) → end_place member_place p (us ++ m ∷ [])
    ≡ Some (member_place m)
end_last p [] m = refl
end_last p (u ∷ us) m = end_last (Some (member_place u)) us m

module _ (q : QueryValue) (from : Option PlaceValue) where
  abbrev pub kept_after : Option PlaceValue → List Member → List Member
  kept_after = kept member_place (same_part q.collapse)

  pub captures_split : (all taken rest : List Member) → filter (is_wanted q from) all ≡ filter (is_wanted q from) taken
      ++ rest
      → captures_over q from all ≡ captures_over q from taken ++ kept_after (place_before q from taken) rest
  captures_split all taken rest h = grind (arith, kept_append, place_cmp_total)

  pub captures_append : (us vs : List Member) → captures_over q from (us ++ vs) ≡ captures_over q from us
      ++ kept_after (place_before q from us) (filter (is_wanted q from) vs)
  captures_append us vs = grind (arith, captures_split, filter-append)

  module _ (taken : List Member) (m : Member) where
    joined : is_wanted q from m ≡ true → filter (is_wanted q from) (taken ++ m ∷ []) ≡ filter (is_wanted q from) taken
        ++ m ∷ []
    joined h = grind (arith, filter-append, cond-true)

    pub captures_repeated : is_wanted q from m ≡ true
        → repeats member_place (same_part q.collapse) (place_before q from taken) m ≡ true
        → captures_over q from (taken ++ m ∷ []) ≡ captures_over q from taken ++ []
    captures_repeated h r =
        let split = captures_split (taken ++ m ∷ []) taken (m ∷ []) (joined h) in grind (arith, append-nil)

    pub captures_joined : is_wanted q from m ≡ true
        → repeats member_place (same_part q.collapse) (place_before q from taken) m ≡ false
        → captures_over q from (taken ++ m ∷ []) ≡ captures_over q from taken ++ m ∷ []
    captures_joined h r = let split = captures_split (taken ++ m ∷ []) taken (m ∷ []) (joined h) in grind arith

-- ---- what a selection takes

-- what the next line is compared with after these
abbrev ComparesAfter : QueryValue → Option PlaceValue → Option CollapsingValue → List Member → Type 0
ComparesAfter q from c taken = c ≡ collapsing_at q.collapse (place_before q from taken)

module _ (q : QueryValue) (from : Option PlaceValue) (c : Option CollapsingValue) (taken : List Member) (m : Member)
    (s : ComparesAfter q from c taken) where
  repeats_told : (b : Bool) → repeats_part c (member_place m) ≡ b
      → repeats member_place (same_part q.collapse) (place_before q from taken) m ≡ b
  repeats_told b r = grind arith

  -- one that repeats the part of the one before
  pub repeated_compares : is_wanted q from m ≡ true → repeats_part c (member_place m) ≡ true
      → ComparesAfter q from c (taken ++ m ∷ [])
  repeated_compares w r = grind (arith, true≢false, bytes_eq-Decides, joined, end_last)

  -- a capture
  pub capture_compares : (d : Option CollapsingValue) → is_wanted q from m ≡ true → d
      ≡ collapsing_after c (member_place m) → ComparesAfter q from d (taken ++ m ∷ [])
  capture_compares d w next = grind (arith, joined, end_last)

  pub capture_is_one : is_wanted q from m ≡ true → repeats_part c (member_place m) ≡ false
      → captures_over q from (taken ++ m ∷ []) ≡ captures_over q from taken ++ m ∷ []
  capture_is_one w r = captures_joined q from taken m w (repeats_told false r)

-- ---- lines that are taken one after another

module _ {B : Type 0} (seen : B → Member) (taken : List Member) (ls : List B) (k : ℕ) (b : B) (inside : k < length ls)
    (is : b ≡ get_or ls k b) where
  -- one line more
  pub one_more : (taken ++ map seen (take k ls)) ++ seen b ∷ [] ≡ taken ++ map seen (take (k + 1) ls)
  one_more = grind (arith, append_assoc, map_more)

  -- and those after it
  pub parted : (rest : List Member) × (taken ++ map seen ls ≡ ((taken ++ map seen (take k ls)) ++ seen b ∷ []) ++ rest)
  parted =
      let split : take k ls ++ b ∷ drop (suc k) ls ≡ ls = grind (arith, take-append-drop, drop-cons) in
      (map seen (drop (suc k) ls), grind (arith, append_assoc, map-append seen (take k ls) (b ∷ drop (suc k) ls)))

pub ruleset selection_rules = (captures_repeated, capture_compares, capture_is_one, repeated_compares)
