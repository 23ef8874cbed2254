-- What was read of sources, and what is given of it.
use Rattle.query_core.proofs.Words.{[], ℕ, ◌++◌, ◌∷◌, ◌≤◌, AllByRecursion, AllZip, Bool, List, Member, Page}
use Rattle.query_core.proofs.Words.{PlaceValue, QueryValue, Some, all_lines, arith, collection, each_filter, each_join, each_kept}
use Rattle.query_core.proofs.Words.{each_rising, each_weaker, flat_map, inl, inr, length, length-append, length-map, lines, map}
use Rattle.query_core.proofs.Words.{place_cmp_total, query_captures, query_page, sum, ap}
use Rattle.merge_core.proofs.Words.{sum_by-cons}
use Rattle.merge_core.proofs.{GroupLemmas.each_cut, Many.each_take, SourceLemmas.each_entry}
use Rattle.merge_core.specs.{Runs.IsPart, SourceLines.IsLineIn, SourceLines.IsLineOf}
use Rattle.cdxj_places.specs.Rising.{IsIn}
use Rattle.query_core.specs.PartLaws.{AnsweredStandInSources, GivenAreRead, PagesStandInSources, StandIn}

in_left : {X : Type 0} (x : X) (us vs : List X) → IsIn x us → IsIn x (us ++ vs)
in_left x [] vs h = absurd h
in_left x (u ∷ us) vs h = grind (arith, in_left x us vs)

in_right : {X : Type 0} (x : X) (us vs : List X) → IsIn x vs → IsIn x (us ++ vs)
in_right x [] vs h = h
in_right x (u ∷ us) vs h = inr (in_right x us vs h)

module _ (past : List ℕ → Bool) (whole : Bool) where
  part_stands : (text : List ℕ) (members : List Member) → IsPart past whole text members
      → AllByRecursion (IsLineIn text) members
  part_stands text members part =
      each_entry part.read (lines text) members part.run.entries
      (λ l there. rw part.cut (in_left l (part.before ++ part.read) part.after (in_right l part.before part.read there)))

  parts_stand : (texts : List (List ℕ)) (parts : List (List Member)) → AllZip (IsPart past whole) texts parts
      → StandIn texts (all_lines parts)
  parts_stand [] [] each = tt
  parts_stand (t ∷ ts) (p ∷ ps) each =
      each_join (IsLineOf (map Some (t ∷ ts))) p (all_lines ps)
      (each_weaker (λ m h. inl h) p (part_stands t p each.0))
      (each_weaker (λ m h. inr h) (all_lines ps) (parts_stand ts ps each.1))
  parts_stand texts parts each = grind arith

  part_short : (text : List ℕ) (members : List Member) → IsPart past whole text members
      → length members ≤ length (lines text)
  part_short text members part =
      let as_many = ap length part.run.entries in
      let all = ap length part.cut in
      grind (arith, length-map, length-append)

  parts_short : (texts : List (List ℕ)) (parts : List (List Member)) → AllZip (IsPart past whole) texts parts
      → sum (map length parts) ≤ sum (map (λ text. length (lines text)) texts)
  parts_short [] [] each = omega arith
  parts_short (t ∷ ts) (p ∷ ps) each =
      let read = sum_by-cons (λ (n : ℕ). n) (length p) (map length ps) in
      let there = sum_by-cons (λ (n : ℕ). n) (length (lines t)) (map (λ text. length (lines text)) ts) in
      omega (arith, part_short t p each.0, parts_short ts ps each.1, read, there)
  parts_short texts parts each = grind arith

captures_stand : (texts : List (List ℕ)) (q : QueryValue) (parts : List (List Member)) → StandIn texts (all_lines parts)
    → StandIn texts (query_captures q (collection parts))
captures_stand texts q parts all = grind (arith, each_rising, each_filter, each_kept, place_cmp_total)

page_stands : (texts : List (List ℕ)) (q : QueryValue) (parts : List (List Member)) → StandIn texts (all_lines parts)
    → StandIn texts (query_page q (collection parts)).members
page_stands texts q parts all =
    let captures = captures_stand texts q parts all in
    grind (arith, each_take)

pub answered_stand : AnsweredStandInSources
answered_stand q texts old new report answered =
    let all = parts_stand _ _ texts answered.parts answered.each in
    (query_page q (collection answered.parts), page_stands texts q answered.parts all, answered.answered.text)

-- pages whose captures, joined, are these have no others
pages_of : (A : Member → Type 0) (pages : List (Page Member PlaceValue))
    → AllByRecursion A (flat_map (λ page. page.members) pages) → AllByRecursion (λ page. AllByRecursion A page.members) pages
pages_of A [] each = tt
pages_of A (page ∷ pages) each =
    let parts = each_cut A page.members (flat_map (λ page. page.members) pages) each in
    (parts.0, pages_of A pages parts.1)

pub pages_stand : PagesStandInSources
pages_stand q texts sizes old new number wrote =
    let all = parts_stand _ _ texts wrote.parts wrote.each in
    let captures = captures_stand texts q wrote.parts all in
    let pages = wrote.wrote.pages in
    (pages, pages_of (IsLineOf (map Some texts)) pages (rw wrote.wrote.joined captures), wrote.wrote.text)

pub given_read : GivenAreRead
given_read q texts old new report answered =
    let few = parts_short _ _ texts answered.parts answered.each in
    (answered.least, omega (arith, answered.lines, few))
