-- How little of indexes a query reads.
use Rattle.query_core.proofs.Words.{[], ℕ, ◌++◌, ◌<◌, ◌∷◌, ◌≡◌, ◌≤◌, AllByRecursion, AllGaveWithin, AllZip}
use Rattle.query_core.proofs.Words.{Ghosts, Grows, Known, List, Member, None, Option}
use Rattle.query_core.proofs.Words.{PlaceValue, QueryValue, Some, WroteFirst, all_lines, arith, begun, captures_text}
use Rattle.query_core.proofs.Words.{collection, each_join, false, filter, first_positive, flat_map, form_of, in_reach, length}
use Rattle.query_core.proofs.Words.{length-append, lines, map, pages_text, query_captures, query_page, refl}
use Rattle.query_core.proofs.Words.{Appends, QUERY_LIMIT, ap, row_text, suc, take, zero, AreCut, Page, WroteInPages, first_size}
use Rattle.merge_core.specs.Spending.{AllOpenedWithin, OpenedWithin, search_steps}
use Rattle.source_core.specs.Halving.{digits}
use Rattle.source_core.proofs.Seeks.{digits_below}
use Rattle.merge_core.proofs.Words.{sum_by-cons}
use Rattle.page_core.specs.Form.{FormValue, Text, Cdxj, Json}
use Rattle.page_core.specs.Pages.{AllPositive}
use Rattle.page_core.proofs.PageLemmas.{page_in_pieces}
use Rattle.query_text.specs.Matching.{covers}
use Rattle.query_core.specs.PageWriting.{last_of}
use Rattle.query_core.specs.QueryPages.{chain_text}
use Rattle.query_core.specs.ReachLaws.{AbsentAnswerSearches, AbsentPagesSearch, CoversNone, EmptyTakeNoStep, FewAreHeld}
use Rattle.query_core.specs.ReachLaws.{UnwrittenAnswerReadsFirst, UnwrittenPagesReadFirst, UnwrittenRepliesReadOne}
use Rattle.query_core.specs.Conversations.{IsMarkedReply}

-- ---- a target that isn't there

abbrev IsUncovered : QueryValue → Member → Type 0
IsUncovered q m = covers q.target m.values.key ≡ false

none_in_reach : (q : QueryValue) (from : Option PlaceValue) (limit : Option ℕ) (all members : List Member)
    → AllByRecursion (IsUncovered q) members → filter (in_reach q from limit all) members ≡ []
none_in_reach q from limit all [] none = refl
none_in_reach q from limit all (m ∷ ms) none = grind (arith, none_in_reach q from limit all ms)

none_of_all : (q : QueryValue) (indexes : List (List Member)) → CoversNone q indexes
    → AllByRecursion (IsUncovered q) (all_lines indexes)
none_of_all q [] none = tt
none_of_all q (i ∷ is) none = each_join (IsUncovered q) i (all_lines is) none.0 (none_of_all q is none.1)

module _ {S : Type 0} (device : Ghosts S) where
  only_searched : (q : QueryValue) (from : Option PlaceValue) (limit : Option ℕ) (all : List Member)
      (texts : List (List ℕ)) (indexes : List (List Member)) (olds news : List S)
      → Known (map device.text olds) texts → CoversNone q indexes
      → AllGaveWithin device (in_reach q from limit all) texts indexes olds news → AllOpenedWithin device olds news
  only_searched q from limit all [] [] [] [] known none gave = tt
  only_searched q from limit all (t ∷ ts) (i ∷ is) (old ∷ olds) (new ∷ news) known none gave =
      let nothing = none_in_reach q from limit all i none.0 in
      let first : OpenedWithin device old new = λ text told. grind (arith, nothing) in
      (first, only_searched q from limit all ts is olds news known.1 none.1 gave.1)
  only_searched q from limit all texts indexes olds news known none gave = grind arith

  pub absent_answer : AbsentAnswerSearches device
  absent_answer q old new olds news result texts indexes (known, are) none reads =
      let all = collection indexes in
      let nothing = none_in_reach q q.resume q.limit all (all_lines indexes) (none_of_all q indexes none) in
      let most = reads.lines texts indexes known are in
      let gave = (reads.bytes texts indexes known are).page in
      (only_searched q q.resume q.limit all texts indexes olds news known none gave, grind (arith, nothing))

  pub absent_pages : AbsentPagesSearch device
  absent_pages q sizes old new olds news texts indexes (known, are) none gave =
      only_searched q q.resume None (collection indexes) texts indexes olds news known none gave.all

-- ---- where nothing was written

empty_or : (text : List ℕ) → length text ≡ 0 → text ≡ []
empty_or [] none = refl
empty_or (b ∷ bs) none = grind arith

nothing_between : (text written : List ℕ) (middle : Option (List ℕ)) → Appends (Some written) middle text
    → Grows middle (Some written) → text ≡ []
nothing_between text written None front grows = absurd front
nothing_between text written (Some shown) front grows =
    let before = ap length front in
    let after = ap length grows.grown in
    empty_or text (grind (arith, length-append))

nothing_written : (text written : List ℕ) → WroteFirst (Some written) (Some written) text → text ≡ []
nothing_written text written wrote = nothing_between text written wrote.middle wrote.front wrote.grows

not_empty : (text : List ℕ) → 0 < length text → text ≡ [] → ⊥
not_empty [] some none = omega (arith, some)
not_empty (b ∷ bs) some none = grind arith

not_empty_before : (us vs ws : List ℕ) → 0 < length us → us ++ vs ++ ws ≡ [] → ⊥
not_empty_before [] vs ws some none = omega (arith, some)
not_empty_before (u ∷ us) vs ws some none = grind arith

a_row : (form : FormValue) (m : Member) → 0 < length (row_text form m)
a_row (Text fields) m = grind (arith, length-append)
a_row Cdxj m = grind (arith, length-append)
a_row (Json fields) m = grind (arith, length-append)

begun_some : (form : FormValue) (m : Member) (ms : List Member) → 0 < length (begun form (m ∷ ms))
begun_some form m ms = grind (arith, length-append, a_row)

no_captures : (form : FormValue) (members : List Member) → captures_text form members ≡ [] → members ≡ []
no_captures form [] none = refl
no_captures form (m ∷ ms) none = absurd (not_empty _ (begun_some form m ms) none)

none_taken : {X : Type 0} (n : ℕ) (xs : List X) → n ≤ length xs → take n xs ≡ [] → n ≡ 0
none_taken zero xs most none = refl
none_taken (suc n) [] most none = grind arith
none_taken (suc n) (x ∷ xs) most none = grind arith

full_page_some : (q : QueryValue) (n : ℕ) (captures : List Member) → 0 < n → n < length captures
    → 0 < length (chain_text q (record { members = take n captures; next = last_of (take n captures) }))
full_page_some q (suc n) (m ∷ ms) some more = grind (arith, page_in_pieces, length-append, begun_some)
full_page_some q n captures some more = grind arith

none_cut : (q : QueryValue) (sizes written : List ℕ) (captures : List Member) → AllPositive sizes
    → WroteInPages q sizes captures (Some written) (Some written) → captures ≡ []
none_cut q sizes written captures positive wrote =
    let nothing = nothing_written _ written wrote.wrote in
    none_in wrote.pages wrote.rows nothing wrote.cut
  where
    no_page : (page : Page Member PlaceValue) (pages : List (Page Member PlaceValue)) (rows : List Member)
        → page ≡ record { members = take (first_size sizes) captures; next = last_of (take (first_size sizes) captures) }
        → first_size sizes < length captures
        → pages_text q (page ∷ pages) ++ captures_text (form_of q) rows ≡ [] → ⊥
    no_page page pages rows is more nothing =
        let some = full_page_some q (first_size sizes) captures (first_positive sizes positive) more in
        not_empty_before (chain_text q page) (pages_text q pages) (captures_text (form_of q) rows) (rw is some) nothing

    none_in : (pages : List (Page Member PlaceValue)) (rows : List Member)
        → pages_text q pages ++ captures_text (form_of q) rows ≡ []
        → AreCut sizes (pages ++ record { members = rows; next = None } ∷ []) captures → captures ≡ []
    none_in [] rows nothing cut = grind (arith, no_captures)
    none_in (page ∷ []) rows nothing cut = absurd (no_page page [] rows cut.0 cut.1 nothing)
    none_in (page ∷ other ∷ pages) rows nothing cut = absurd (no_page page (other ∷ pages) rows cut.0 cut.1 nothing)

none_answered : (IsReply : List ℕ → List ℕ → Type 0) (answered replies : List (List ℕ))
    → AllZip (IsMarkedReply QUERY_LIMIT IsReply) answered replies → flat_map (λ text. text) replies ≡ [] → answered ≡ []
none_answered IsReply [] replies each none = refl
none_answered IsReply (line ∷ lines) (reply ∷ replies) each none =
    let some : 0 < length reply = grind (arith, length-append) in
    absurd (not_empty (reply ++ flat_map (λ text. text) replies) (grind (arith, length-append)) none)
none_answered IsReply (line ∷ lines) [] each none = grind arith

module _ {S : Type 0} (device : Ghosts S) where
  pub unwritten_answer : UnwrittenAnswerReadsFirst device
  unwritten_answer q written olds news texts indexes gave =
      let members = (query_page q (collection indexes)).members in
      let nothing = nothing_written _ written gave.wrote in
      let none = no_captures (form_of q) (take gave.whole members) nothing in
      rw (none_taken gave.whole members gave.most none) at gave.within

  pub unwritten_pages : UnwrittenPagesReadFirst device
  unwritten_pages q sizes written olds news texts indexes positive gave =
      let captures = query_captures q (collection indexes) in
      let none = none_cut q sizes written (take gave.whole captures) positive gave.wrote in
      rw (none_taken gave.whole captures gave.most none) at gave.within

  pub unwritten_replies : UnwrittenRepliesReadOne device
  unwritten_replies input texts indexes written olds news gave =
      let nothing = nothing_written _ written gave.wrote in
      let none = none_answered _ gave.answered gave.replies gave.each nothing in
      (gave.next, gave.one, rw none at gave.first, rw none at gave.within)

  -- ---- what is held, and steps

  pub few_held : FewAreHeld device
  few_held q old new olds news result texts indexes (known, are) few reads = reads.held texts indexes known are 1 few

  no_steps : (olds : List S) → AllByRecursion (λ s. device.extent s ≡ 0) olds → search_steps device olds ≡ 0
  no_steps [] none = refl
  no_steps (s ∷ ss) none =
      let here = digits_below (device.extent s) in
      let joined = sum_by-cons (λ (n : ℕ). n) (digits (device.extent s)) (map (λ s. digits (device.extent s)) ss) in
      omega (arith, none.0, no_steps ss none.1, here.1, joined)

  pub no_step : EmptyTakeNoStep device
  no_step q old new olds news result none reads =
      let steps = no_steps olds none in
      grind arith
