-- One page of a query, by what was taken of its sources, and by what a writer has written.
use Rattle.query_core.proofs.Words.{[], ℕ, ◌++◌, ◌+◌, ◌-◌, ◌<◌, ◌^◌, ◌∷◌, ◌≡◌, ◌≤◌, ◌⊎◌, AllPositive, AllZip, Appends}
use Rattle.query_core.proofs.Words.{Appends-join, Appends-none, AppendsPrefix, AreAtMost, AreFirst, Bool, Broke}
use Rattle.query_core.proofs.Words.{GaveFor, GaveInPages, GaveInReach, Ghosts, Grows, IsIndex, IsSized, IsWriterOf}
use Rattle.query_core.proofs.Words.{Known, LINE_LIMIT, List, Member, None, Option, OverIndexes, Page, PageWriter}
use Rattle.query_core.proofs.Words.{PlaceValue, QueryValue, Rises, Some, Wrote, WroteFirst, WroteInPages, WrotePages}
use Rattle.query_core.proofs.Words.{WrotePagesInPart, answer_text, append-nil, arith, begun, captures_text, collection}
use Rattle.query_core.proofs.Words.{err_from_is_err_and, false, false_from_ne_true, first_size, form_of, grows_by}
use Rattle.query_core.proofs.Words.{grows_not, grows_on, grows_part, inl, inr, is_some, kept, length, length-append}
use Rattle.query_core.proofs.Words.{length-take, map, member_place, min, next_of, no_pages, not, page_end, pages_text}
use Rattle.query_core.proofs.Words.{place_cmp, prefix_after, prefix_longer, put, query_page, refl}
use Rattle.query_core.proofs.Words.{rising, shown_key, sum, sym, take-append_seam, text_so_far, true}
use Rattle.query_core.proofs.Words.{two_same, wrote_nothing}
use Rattle.merge_core.specs.SourceLines.{HoldsOfLines}
use Rattle.merge_core.proofs.CollectedLemmas.{collection_rises, of_lines}
use Rattle.query_core.specs.Answering.{Answered}
use Rattle.query_core.specs.{Passes.Took, declared.page_writer.PageEnd.PageEnd, declared.report.Report.Report}
use Rattle.query_core.specs.WriterView.{IsEndOf, Stands, state_of}
use Rattle.query_core.proofs.PagesLemmas.{IsOnePage, all_cut, among_rows, decided, few_rows, front_more, has_next}
use Rattle.query_core.proofs.PagesLemmas.{is_sized, none_follow, one_page, page, page_front, page_is, page_members}
use Rattle.query_core.proofs.PagesLemmas.{pages_by, pages_join, wrote_front}
use Rattle.query_core.proofs.WriterLemmas.{captures, captures_are, filter_and}
use Rattle.query_core.proofs.{PageChains.wrote_most, PageChains.wrote_whole, ReachLemmas.within_opening}
use Rattle.std.proofs.lemmas.List.Concat.{length-flat_map}
use Rattle.std.proofs.lemmas.List.Sums.{count_by-le-length, length-filter, sum-map}
use Rattle.page_core.proofs.PageLemmas.{page_in_pieces}

-- the query's page is that of the lines that are wanted
pub asked_is : (q : QueryValue) (lines : List Member) → query_page q lines ≡ page q.limit (captures q lines)
asked_is q lines = grind (arith, page, filter_and)

-- a writer that began with this query, this limit and these sizes wrote what stands of these lines
pub record Writing (q : QueryValue) (limit : Option ℕ) (sizes : List ℕ) (start now : Option (List ℕ))
    (taken : List Member) : Type 0 where
  pub first : PageWriter
  pub is : IsWriterOf q limit sizes first
  pub writer : PageWriter
  pub wrote : Wrote first writer taken start now

-- ---- what holds of lines of the sources

module _ {told : List (Option (List ℕ))} {Holds : List Member → Type 0} where
  -- no line was taken
  pub of_none : ((all : List Member) → Rises member_place place_cmp all → Holds all) → HoldsOfLines told Holds
  of_none holds =
      of_lines [] (grind arith) (holds [] tt) (λ texts indexes known are. holds _ (collection_rises indexes))

  -- those that were taken come first, and may be all
  pub of_taken : {q : QueryValue} {taken : List Member} {whole : Bool} → Took q told taken whole
      → ((all rest : List Member) → Rises member_place place_cmp all → captures q all ≡ captures q taken ++ rest
      → (whole ≡ true → captures q all ≡ captures q taken) → Holds all) → HoldsOfLines told Holds
  of_taken t holds = of_lines _ t.lines (holds _ [] t.lines.rise (sym (append-nil _)) (λ e. refl)) (λ texts indexes known are.
      let first = t.first texts indexes known are in
      holds _ first.0 (collection_rises indexes) first.1 (λ e. t.whole e texts indexes known are))

module _ {q : QueryValue} {limit : Option ℕ} {sizes : List ℕ} {start mid : Option (List ℕ)} {taken : List Member}
    (w : Writing q limit sizes start mid taken) where
  pub query_is : w.writer.selection.query.now ≡ q
  query_is = cc

  -- it took more lines
  abbrev pub passed : (more : List Member) (now : Option (List ℕ)) (writer : PageWriter) → ((first : PageWriter)
      → (start : Option (List ℕ)) → Wrote first w.writer taken start mid → Wrote first writer more start now)
      → Writing q limit sizes start now more
  passed more now writer came = record { first = w.first; is = w.is; writer = writer; wrote = came w.first start w.wrote }

  pub stood : IsSized limit sizes → Stands q (pages_by q limit sizes taken) (state_of w.writer) start mid
  stood sized = rw (w.is.query_is, w.is.from_is, w.is.limit_is, w.is.sizes_are) at
      (w.wrote.stands (rw (w.is.limit_is, w.is.sizes_are) sized))

-- what was written before a fault is a front of the pages of lines of which these come first
pub broke_front : {q : QueryValue} {limit : Option ℕ} {sizes : List ℕ} {start mid : Option (List ℕ)}
    (b : Writing q limit sizes start mid []) → IsSized limit sizes → (taken : List Member) (now : Option (List ℕ))
    → ((first : PageWriter) (start : Option (List ℕ)) → Wrote first b.writer [] start mid
    → ((k : PageWriter) × Wrote first k taken start now) ⊎ Broke first taken start now)
    → (all rest : List Member) → captures q all ≡ captures q taken ++ rest
    → AppendsPrefix start now (text_so_far q (pages_by q limit sizes all))
broke_front {q = q} {start = start} b sized taken now came all rest split =
    let broke : Broke b.first taken start now =
    elim (came b.first start b.wrote) [ inl k ↦ wrote_front k.1 | inr broke ↦ broke ] in
    let text = rw (b.is.query_is, b.is.from_is, b.is.limit_is, b.is.sizes_are) at
    (broke (rw (b.is.limit_is, b.is.sizes_are) sized)) in
    rw (split, pages_join _ _ rest) (front_more q start now _ rest text)

-- ---- one page

-- the answer to a query, by the rows of its page
answer_text_is : (q : QueryValue) (lines : List Member) → answer_text q (query_page q lines)
    ≡ text_so_far q (pages_by q q.limit [] lines) ++ page_end (form_of q)
    (shown_key q.show_resume_key (query_page q lines).next)
answer_text_is q lines =
    let one = one_page q.limit (captures q lines) in grind (arith, asked_is, page_members, page_in_pieces)

pub answer_front : (q : QueryValue) (lines : List Member) (start now : Option (List ℕ))
    → AppendsPrefix start now (text_so_far q (pages_by q q.limit [] lines))
    → AppendsPrefix start now (answer_text q (query_page q lines))
answer_front q lines start now p = rw (answer_text_is q lines) (prefix_longer _ _ _ _ p)

module _ {q : QueryValue} {start mid : Option (List ℕ)} {taken : List Member}
    (w : Writing q q.limit [] start mid taken) where
  abbrev stands : Stands q (pages_by q q.limit [] taken) (state_of w.writer) start mid
  stands = stood w tt

  one : IsOnePage q.limit (captures q taken) (pages_by q q.limit [] taken)
  one = one_page q.limit (captures q taken)

  abbrev key_of : QueryValue → Option (List ℕ)
  key_of r = shown_key r.show_resume_key (next_of w.writer.more w.writer.last)

  -- where no capture follows the page, no line was left
  pub no_more : (whole more : Bool) → (whole ≡ false → w.writer.more ≡ true)
      → more ≡ is_some (next_of w.writer.more w.writer.last) → not more ≡ true → whole ≡ true
  no_more whole more enough is none = let s = stands in grind arith

  -- of all lines those that were taken come first, and are all or enough: they settle the page
  module _ (all : List Member) (new : Option (List ℕ)) (whole : Bool) (rest : List Member)
      (first : captures q all ≡ captures q taken ++ rest) (ended : whole ≡ true → captures q all ≡ captures q taken)
      (enough : whole ≡ false → w.writer.more ≡ true) where
    same : query_page q all ≡ page q.limit (captures q taken)
    same = let settled = decided stands one in grind (arith, asked_is)

    text_same : answer_text q (query_page q all)
        ≡ text_so_far q (pages_by q q.limit [] taken) ++ page_end (form_of q) (key_of q)
    text_same =
        let is = page_is stands one in let same = same in grind (arith, answer_text_is q taken, asked_is q taken)

    -- with its end it is written
    pub page_ended : (end : PageEnd) (report : Report)
        → Appends mid new (page_end (form_of w.writer.selection.query.now) (key_of w.writer.selection.query.now))
        → IsEndOf w.writer end → report.given ≡ end.given → report.more ≡ is_some end.next → Answered q all start new report
    page_ended end report a of_end given more =
        let s = stands in
        let is = page_is s one in
        let page = same in
        let text = Appends-join _ _ _ _ _ s.text (rw (query_is w) at a) in grind (arith, text_same)

    pub end_front : AppendsPrefix mid new
        (page_end (form_of w.writer.selection.query.now) (key_of w.writer.selection.query.now))
        → AppendsPrefix start new (answer_text q (query_page q all))
    end_front p = rw text_same (prefix_after _ _ _ _ _ stands.text (rw (query_is w) at p))

-- ---- what was read for pages, beside what stands written of them

-- what stands written of rows, where those of a page that others precede aren't none
written : (q : QueryValue) (whole : List (Page Member PlaceValue)) (rows : List Member)
    (start now new : Option (List ℕ)) → (whole ≡ []) ⊎ (0 < length rows)
    → Appends start now (pages_text q whole ++ begun (form_of q) rows) → Grows now new
    → WroteFirst start new (pages_text q whole ++ captures_text (form_of q) rows)
written q whole [] start now new (inl none) a g =
    rw none (record { middle = start; front = Appends-none start; grows = grows_on _ _ _ (grows_by _ _ _ a) g })
written q whole [] start now new (inr some) a g = absurd (omega (arith, some))
written q whole (m ∷ ms) start now new more a g = record { middle = now; front = a; grows = g }

-- ---- one page

-- where it wanted more, the captures of what was passed on don't pass the page
pub within : {q : QueryValue} {start mid : Option (List ℕ)} (b : Writing q q.limit [] start mid [])
    → (q.limit ≡ Some 0 → ⊥) → (taken : List Member) (now : Option (List ℕ)) (writer : PageWriter)
    → ((first : PageWriter) → (start : Option (List ℕ)) → Wrote first b.writer [] start mid
    → Wrote first writer taken start now)
    → ((b.writer.more ≡ true → ⊥) → writer.more ≡ true → ⊥) → AreAtMost q.limit (captures q taken)
within {q} b some taken now writer came more =
    let none = (stood b tt).more in
    few_rows (stood (passed b taken now writer came) tt) (one_page q.limit (captures q taken))
    (grind (arith, false_from_ne_true)) some

-- What was written of the page of these lines, which come first, and what sources gave for the captures of the earlier
-- of them
pub page_reached : {S : Type 0} (device : Ghosts S) {q : QueryValue}
    {old middle : Option (List ℕ)} (new : Option (List ℕ)) (olds news : List S) {taken : List Member}
    (earlier tail : List Member) → Writing q q.limit [] old middle taken → Grows middle new
    → OverIndexes (map device.text olds) (λ texts indexes. AreFirst q (collection indexes) taken)
    → captures q taken ≡ captures q earlier ++ tail → AreAtMost q.limit (captures q earlier)
    → GaveFor q (map device.text olds) device earlier olds news → OverIndexes (map device.text olds)
    (λ texts indexes. GaveInReach device q texts indexes old new olds news)
page_reached device {q} {old} {middle} new olds news {taken} earlier tail w grows first split most within =
    λ texts indexes known are.
    let front = first texts indexes known are in
    let s = stands w in
    let mine = (pages_by q q.limit [] taken).rows in
    let later = page_front q.limit (captures q taken) front.0 in
    let members : (query_page q (collection indexes)).members ≡ mine ++ later.0 =
    rw (asked_is q (collection indexes), front.1, later.1, page_is s (one w)) refl in
    let front_written = written q [] mine old middle new (inl refl) (rw (one w).whole at s.text) grows in
    record {
      whole = length mine;
      most = grind (arith, length-append);
      wrote = grind (arith, take-append_seam);
      within = within texts indexes known are (Some (length mine))
          (among_rows s (one w) (captures q earlier) tail split most);
      page = within texts indexes known are q.limit most;
    }

-- nothing was read at all, and no capture was written
pub page_not_reached : {S : Type 0} (device : Ghosts S) (q : QueryValue)
    (texts : List (List ℕ)) (indexes : List (List Member)) (old new : Option (List ℕ)) (sources : List S)
    → Known (map device.text sources) texts → AllZip (IsIndex LINE_LIMIT) texts indexes → Grows old new
    → GaveInReach device q texts indexes old new sources sources
page_not_reached device q texts indexes old new sources known are grows =
    grind (arith, Appends-none, within_opening, two_same)

-- ---- a page has no more captures than lines were read

kept_fewer : (same : PlaceValue → PlaceValue → Bool) (p : Option PlaceValue) (ms : List Member)
    → length (kept member_place same p ms) ≤ length ms
kept_fewer same p [] = omega arith
kept_fewer same p (m ∷ ms) = grind (arith, kept_fewer same (Some (member_place m)) ms)

put_fewer : (m : Member) (ms : List Member) → length (put member_place place_cmp m ms) ≤ length (m ∷ ms)
put_fewer m [] = omega arith
put_fewer m (k ∷ ms) = grind (arith, put_fewer m ms)

rising_fewer : (ms : List Member) → length (rising member_place place_cmp ms) ≤ length ms
rising_fewer [] = omega arith
rising_fewer (m ∷ ms) = grind (arith, put_fewer, rising_fewer ms)

pub page_fewer : (q : QueryValue) (parts : List (List Member)) (given lines : ℕ) → given
    ≡ min (length (query_page q (collection parts)).members) (2 ^ 64 - 1)
    → lines ≡ min (sum (map (λ (ms : List Member). length ms) parts)) (2 ^ 64 - 1) → given ≤ lines
page_fewer q parts given lines g l =
    grind (arith, asked_is, kept_fewer, length-filter, count_by-le-length, length-take, rising_fewer, length-flat_map, sum-map)

module _ {S : Type 0} (device : Ghosts S) (q : QueryValue) (sizes : List ℕ) where
  -- nothing was read at all, and no capture was written
  pub no_pages_reached : (texts : List (List ℕ)) (indexes : List (List Member)) (old new : Option (List ℕ))
      (sources : List S) → Known (map device.text sources) texts → AllZip (IsIndex LINE_LIMIT) texts indexes → Grows old new
      → GaveInPages device q sizes texts indexes old new sources sources
  no_pages_reached texts indexes old new sources known are grows =
      let front : WroteFirst old new [] = record { middle = old; front = Appends-none old; grows = grows } in
      record {
        whole = 0;
        most = omega arith;
        wrote = record { pages = []; rows = []; cut = (refl, omega arith); wrote = front };
        within = grind (arith, within_opening, two_same);
        all = grind (arith, within_opening, two_same);
      }

  -- The captures of these lines, which come first, were written, and then perhaps more. What the sources gave is in
  -- reach of the earlier of them.
  pub pages_reached : {old : Option (List ℕ)} (new : Option (List ℕ)) (olds news : List S)
      (taken earlier tail : List Member) → WroteInPages q sizes (captures q taken) old new
      → OverIndexes (map device.text olds) (λ texts indexes. AreFirst q (collection indexes) taken)
      → captures q taken ≡ captures q earlier ++ tail → GaveFor q (map device.text olds) device earlier olds news
      → OverIndexes (map device.text olds)
      (λ texts indexes. GaveInPages device q sizes texts indexes old new olds news)
  pages_reached new olds news taken earlier tail wrote first split within = λ texts indexes known are.
      let front = first texts indexes known are in
      let one = within texts indexes known are (Some (length (captures q taken))) (grind (arith, length-append)) in
      let all = within texts indexes known are None tt in
      grind (arith, captures_are, take-append_seam, length-append)

-- ---- where a writer of pages ends, and where it fails

-- pages of all sizes
module _ {q : QueryValue} {sizes : List ℕ} {start now : Option (List ℕ)} {taken : List Member}
    (positive : AllPositive sizes) (w : Writing q (Some (first_size sizes)) sizes start now taken) where
  all : Stands q (pages_by q (Some (first_size sizes)) sizes taken) (state_of w.writer) start now
  all = stood w (is_sized sizes positive)

  -- it wants each line
  pub never_enough : w.writer.more ≡ false
  never_enough = let s = all in grind (arith, none_follow sizes positive (captures q taken))

  -- they stand written in pages
  pub stood_pages : (new : Option (List ℕ)) → Grows now new → WroteInPages q sizes (captures q taken) start new
  stood_pages new grows = record {
    pages = (pages_by q (Some (first_size sizes)) sizes taken).whole;
    rows = (pages_by q (Some (first_size sizes)) sizes taken).rows;
    cut = all_cut sizes positive (captures q taken);
    wrote = written q _ _ start now new
        (has_next (no_pages (Some (first_size sizes)) sizes) (captures q taken) (inl refl))
        all.text grows;
  }

  -- the lines that were taken have all captures of these lines
  module _ (lines : List Member) (rise : Rises member_place place_cmp lines)
      (same : captures q lines ≡ captures q taken) (new : Option (List ℕ)) where
    abbrev end : List ℕ
    end = page_end (form_of w.writer.selection.query.now)
        (shown_key w.writer.selection.query.now.show_resume_key (next_of w.writer.more w.writer.last))

    -- no resume key ends them
    end_is : end ≡ page_end (form_of q) None
    end_is = grind (arith, never_enough, query_is w)

    pub all_ended : (number : ℕ) → Appends now new end → number ≡ min (w.writer.count + 1) (2 ^ 64 - 1)
        → WrotePages q lines sizes start new number
    all_ended number a n =
        let text = Appends-join _ _ _ _ _ all.text (rw end_is at a) in
        wrote_whole q sizes positive lines rise start new number (rw same all.keyed) (rw same text)
        (rw same (grind (arith, length-append)))

    pub at_end : AppendsPrefix now new end → WrotePagesInPart q lines sizes start new
    at_end p = wrote_most q sizes positive lines rise start new
        (rw same (prefix_after _ _ _ _ _ all.text (rw end_is at p)))

-- ---- what the calls cite

pub ruleset answer_rules = (page_not_reached, grows_not, grows_part, err_from_is_err_and, wrote_nothing)

pub ruleset pages_rules = (within_opening, two_same, no_pages_reached, grows_not, grows_part)
