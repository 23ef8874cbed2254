-- Pages of indexes that grow meanwhile.
use Rattle.query_core.proofs.Words.{[], ℕ, ◌++◌, ◌<◌, ◌≡◌, ◌∙◌, ◌∷◌, ◌⊎◌, Bool, IsIn, List, Member, None, Option, Page, PlaceValue}
use Rattle.query_core.proofs.Words.{QueryValue, Rises, Some, ap, arith, collection, drop, filter, flat_map, inl, inr, is_above}
use Rattle.query_core.proofs.Words.{member_place, next_after, place_cmp, place_cmp_total}
use Rattle.query_core.proofs.Words.{query_page, refl, rises_filter, rises_rising, selected, subst, sym, take}
use Rattle.query_core.proofs.Words.{take-append-drop, true}
use Rattle.std.specs.Prelude.{MatchOption}
use Rattle.page_core.proofs.PageLaws.{all_taken, split_there}
use Rattle.query_core.specs.QueryLaws.{AddedOnlyAdd, AllAreKept, ArePagesMeanwhile, GrowingLosesNone}

in_filter : (f : Member → Bool) (m : Member) (xs : List Member) → IsIn m (filter f xs) → (f m ≡ true) × IsIn m xs
in_filter f m [] i = absurd i
in_filter f m (x ∷ xs) i = grind (arith, in_filter f m xs)

filter_in : (f : Member → Bool) (m : Member) (xs : List Member) → IsIn m xs → f m ≡ true → IsIn m (filter f xs)
filter_in f m [] i e = absurd i
filter_in f m (x ∷ xs) i e = grind (arith, filter_in f m xs)

in_parts : (m : Member) (us vs : List Member) → IsIn m (us ++ vs) → IsIn m us ⊎ IsIn m vs
in_parts m [] vs i = inr i
in_parts m (u ∷ us) vs i = grind (arith, in_parts m us vs)

in_left : (m : Member) (us vs : List Member) → IsIn m us → IsIn m (us ++ vs)
in_left m [] vs i = absurd i
in_left m (u ∷ us) vs i = grind (arith, in_left m us vs)

in_right : (m : Member) (us vs : List Member) → IsIn m vs → IsIn m (us ++ vs)
in_right m [] vs i = i
in_right m (u ∷ us) vs i = inr (in_right m us vs i)

-- the captures above a place
abbrev above : QueryValue → Option PlaceValue → List (List Member) → List Member
above q after indexes = filter (is_above member_place place_cmp after) (selected q (collection indexes))

above_rise : (q : QueryValue) (after : Option PlaceValue) (indexes : List (List Member))
    → Rises member_place place_cmp (above q after indexes)
above_rise q after indexes = grind (arith, rises_filter, place_cmp_total, rises_rising)

-- a capture above a place is on the page after it, or above the place that the page gives
on_page : (size : ℕ) (c : List Member) (m : Member) → 0 < size → Rises member_place place_cmp c → IsIn m c
    → IsIn m (take size c) ⊎ ((p : PlaceValue) × (next_after member_place size c ≡ Some p)
    × (is_above member_place place_cmp (Some p) m ≡ true))
on_page size c m positive rise i =
    (elim (next_after member_place size c) as (λ n. next_after member_place size c ≡ n
    → IsIn m (take size c) ⊎ ((p : PlaceValue) × (next_after member_place size c ≡ Some p)
    × (is_above member_place place_cmp (Some p) m ≡ true))) [
      | None ↦ (λ e. inl (subst (IsIn m) (sym (all_taken member_place place_cmp (λ p q. true) place_cmp_total size c positive e)) i))
      | Some p ↦ (λ e.
          let there = split_there member_place place_cmp (λ p q. true) place_cmp_total size c p rise e in
          elim (in_parts m (take size c) (drop size c) (subst (IsIn m) (sym (take-append-drop size c)) i)) [
            | inl taken ↦ inl taken
            | inr left ↦ inr (
              p,
              e,
              subst (λ p. is_above member_place place_cmp (Some p) m ≡ true) there.2
                  (in_filter (is_above member_place place_cmp (Some (member_place there.0))) m c
                  (subst (IsIn m) (sym there.4) left)).0,
            )
          ])
    ]) refl

module _ (kept : AllAreKept) (added_only : AddedOnlyAdd) (q : QueryValue) (none : q.collapse ≡ None) (size : ℕ)
    (positive : 0 < size) where
  page_is : (after : Option PlaceValue) (indexes : List (List Member)) → (query_page (record q {
    resume = after;
    limit = Some size;
  }) (collection indexes) ≡ record {
    members = take size (above q after indexes);
    next = next_after member_place size (above q after indexes);
  })
  page_is after indexes = rw none (let all = kept (selected q (collection indexes)) after in cc)

  loses_none : (after : Option PlaceValue) (indexes : List (List Member)) (pages : List (Page Member PlaceValue))
      → ArePagesMeanwhile q size after indexes pages → (m : Member) → IsIn m (above q after indexes)
      → IsIn m (flat_map (λ page. page.members) pages)
  loses_none after indexes [] h m i = absurd h
  loses_none after indexes (page ∷ pages) h m i =
      let is = page_is after indexes in
      let rest = λ (p : PlaceValue) (added : List (List Member)). loses_none (Some p) (indexes ++ added) pages in
      elim (on_page size (above q after indexes) m positive (above_rise q after indexes) i) [
        | inl here ↦ in_left m page.members _ (grind arith)
        | inr later ↦
            let next_is : page.next ≡ Some later.0 = ap (λ (g : Page Member PlaceValue). g.next) (h.0 ∙ is) ∙ later.1 in
            let more = subst (λ (next : Option PlaceValue). MatchOption next (pages ≡ []) (λ p. (added : List (List Member))
            × ArePagesMeanwhile q size (Some p) (indexes ++ added) pages)) next_is h.1 in
            let asked = in_filter (is_above member_place place_cmp after) m (selected q (collection indexes)) i in
            let still = filter_in (is_above member_place place_cmp (Some later.0)) m
            (selected q (collection (indexes ++ more.0))) (added_only q indexes more.0 m asked.1) later.2 in
            in_right m page.members (flat_map (λ page. page.members) pages) (rest later.0 more.0 more.1 m still)
      ]

pub growing_loses_none : AllAreKept → AddedOnlyAdd → GrowingLosesNone
growing_loses_none kept added_only q size indexes pages none positive h m i =
    loses_none kept added_only q none size positive q.resume indexes pages h m
    (let all = kept (selected q (collection indexes)) q.resume in grind arith)
