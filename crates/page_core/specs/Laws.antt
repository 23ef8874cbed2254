-- The laws of pages of captures.
use Rattle.std.specs.Prelude.{◌≡◌, ℕ, List, flat_map, Bool, Option, Some}
use Rattle.std.specs.List.{filter}
use Rattle.cdxj_places.specs.Places.{PlaceValue, place_cmp}
use Rattle.cdxj_places.specs.Rising.{IsIn, Rises}
use Rattle.cdxj_core.specs.Members.{Member, member_place}
use Rattle.page_core.specs.Pages.{Page, AllPositive, is_above, collapsed, IsChain, FullButLast}

-- Whether two places have their part in common, and a list that rises.
module _ (same : PlaceValue → PlaceValue → Bool) (l : List Member)
    (rises : Rises member_place place_cmp l) where
  -- the pages of a chain, one after another, are what is listed above its place, and all but the
  -- last are full
  abbrev pub PagesJoin : Type 0
  PagesJoin = (p : Option PlaceValue) (sizes : List ℕ) (pages : List (Page Member PlaceValue))
      → AllPositive sizes
      → IsChain member_place place_cmp same l p sizes pages
      → (flat_map (λ page. page.members) pages ≡ collapsed member_place place_cmp same l p)
      × FullButLast sizes pages

  -- there is one chain
  abbrev pub IsOneChain : Option PlaceValue → List ℕ → List (Page Member PlaceValue) → Type 0
  IsOneChain p sizes pages = IsChain member_place place_cmp same l p sizes pages
      × ((others : List (Page Member PlaceValue))
      → IsChain member_place place_cmp same l p sizes others
      → others ≡ pages)

  -- what is collapsed goes on from each of its members as it began
  abbrev pub CollapseResumes : Type 0
  CollapseResumes = (p : Option PlaceValue) (m : Member)
      → IsIn m (collapsed member_place place_cmp same l p)
      → collapsed member_place place_cmp same l (Some (member_place m))
      ≡ filter (is_above member_place place_cmp (Some (member_place m)))
      (collapsed member_place place_cmp same l p)
