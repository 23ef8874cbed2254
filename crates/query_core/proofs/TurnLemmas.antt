-- A query that is asked again and again.
use Rattle.query_core.proofs.Words.{[], ℕ, ◌↔◌, ◌∷◌, IsChain, List, Member, Option, Page, PlaceValue, QueryValue, Some, arith}
use Rattle.query_core.proofs.Words.{member_place, place_cmp, same_part, selected}
use Rattle.query_core.specs.QueryLaws.{AreAskedInTurn, AskedAreChain}

module _ (q : QueryValue) (size : ℕ) (lines : List Member) where
  in_turn : (after : Option PlaceValue) (pages : List (Page Member PlaceValue))
      → AreAskedInTurn q size lines after pages
      ↔ IsChain member_place place_cmp (same_part q.collapse) (selected q lines) after (size ∷ []) pages
  in_turn after [] = ((λ h. h), (λ h. h))
  in_turn after (page ∷ pages) =
      let rest = λ (p : PlaceValue). in_turn (Some p) pages in
      grind arith

pub asked_are_chain : AskedAreChain
asked_are_chain q size lines pages = in_turn q size lines q.resume pages
