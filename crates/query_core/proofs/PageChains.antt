-- The pages of a query, by how its captures are cut.
use Rattle.query_core.proofs.Words.{[], ℕ, ◌++◌, ◌-◌, ◌^◌, ◌∙◌, ◌∷◌, ◌≡◌, AllByRecursion, AllPositive, Appends}
use Rattle.query_core.proofs.Words.{AppendsPrefix, AreCut, Bool, HasReadKey, IsChain, List, Member}
use Rattle.query_core.proofs.Words.{None, Option, Page, PagesSoFar, PlaceValue, QueryValue, Rises, Some, WrotePages}
use Rattle.query_core.proofs.Words.{WrotePagesInPart, ap, append-nil, append_assoc, arith, captures_over, chain_law}
use Rattle.query_core.proofs.Words.{collapsed, drop, each_join, each_kept, first_positive, first_size}
use Rattle.query_core.proofs.Words.{flat_map-append, form_of, is_wanted, later_positive, later_sizes, length}
use Rattle.query_core.proofs.Words.{length-take, member_place, min, next_after, page_end, pages_text, place_cmp}
use Rattle.query_core.proofs.Words.{place_cmp_total, prefix_longer, rises_collapsed, rises_filter, same_part, selected}
use Rattle.query_core.proofs.Words.{subst, sym, take, take_all, text_so_far, true}
use Rattle.page_core.proofs.PageLaws.{chain_one, collapse_resumes, split_there}
use Rattle.merge_core.proofs.InputLemmas.{filter_passes}
use Rattle.query_core.specs.{OneText.PagesAreOne, QueryPages.IsQueryChain}
use Rattle.query_core.proofs.WriterLemmas.{captures, captures_are}
use Rattle.query_core.proofs.PagesLemmas.{Pages, all_cut, all_pages, ends, last_page, next_place, next_short, pages_by}
use Rattle.query_core.specs.WrittenPages.{KeysButLast, empty_page}
use Rattle.page_core.proofs.PageLemmas.{page_in_pieces}

-- ---- captures that are cut

-- every page but the last has its key, where keys are read as their places
keys_but_last : (sizes : List ℕ) (pages : Pages) (c : List Member) → AllPositive sizes → AreCut sizes pages c
    → AllByRecursion HasReadKey pages → KeysButLast pages
keys_but_last sizes (page ∷ other ∷ rest) c z cut keyed =
    let some = first_positive sizes z in
    let r = ends (take (first_size sizes) c) (omega (arith, length-take (first_size sizes) c, cut.1)) in
    let next : page.next ≡ Some (member_place r.1) = grind arith in (
      record { before = r.0; last = r.1; members = grind arith; next = next; read = grind arith },
      keys_but_last (later_sizes sizes) (other ∷ rest) _ (later_positive sizes z) cut.2 keyed.1,
    )
keys_but_last sizes pages c z cut keyed = grind arith

-- where there are none, there is one empty page
one_empty : (sizes : List ℕ) (pages : Pages) → AreCut sizes pages [] → pages ≡ empty_page ∷ []
one_empty sizes (page ∷ other ∷ rest) cut = absurd (omega (arith, cut.1))
one_empty sizes pages cut = grind arith

-- ---- the captures of a query are wanted

pub captures_wanted : (from : Option PlaceValue) (q : QueryValue) (lines : List Member)
    → AllByRecursion (λ m. is_wanted q from m ≡ true) (captures_over q from lines)
captures_wanted from q lines = grind (arith, each_kept, place_cmp_total, filter_passes)

module _ (same : PlaceValue → PlaceValue → Bool) (l : List Member) (rises : Rises member_place place_cmp l) where
  abbrev shown : Option PlaceValue → List Member
  shown p = collapsed member_place place_cmp same l p

  -- captures that are cut are the pages of a chain
  pub cut_chain : (p : Option PlaceValue) (sizes : List ℕ) (pages : Pages) → AllPositive sizes
      → AreCut sizes pages (shown p) → IsChain member_place place_cmp same l p sizes pages
  cut_chain p sizes (page ∷ other ∷ rest) z h =
      let n = first_size sizes in
      let some = first_positive sizes z in
      let r = ends (take n (shown p)) (omega (arith, length-take n (shown p), h.1)) in
      let place = member_place r.1 in
      let next : next_after member_place n (shown p) ≡ Some place = next_place n (shown p) h.1 ∙ r.3 in
      let s = split_there member_place place_cmp same place_cmp_total n (shown p) place
      (rises_collapsed member_place place_cmp same place_cmp_total l p rises) next in
      let over : shown (Some place) ≡ drop n (shown p) =
      ap (λ (q : PlaceValue). shown (Some q)) (sym s.2)
      ∙ collapse_resumes member_place place_cmp same place_cmp_total l p s.0 rises s.1 ∙ s.4 in
      let chain = cut_chain (Some place) (later_sizes sizes) (other ∷ rest) (later_positive sizes z) (rw over h.2) in
      (grind arith, rw (ap (λ (g : Page Member PlaceValue). g.next) h.0, r.3) chain)
  cut_chain p sizes pages z h = grind (arith, take_all, next_short)

module _ (q : QueryValue) (sizes : List ℕ) (positive : AllPositive sizes) (lines : List Member)
    (rise : Rises member_place place_cmp lines) where
  selects : Rises member_place place_cmp (selected q lines)
  selects = grind (arith, rises_filter, place_cmp_total)

  chain_of : (pages : Pages) → AreCut sizes pages (captures_over q q.resume lines) → IsQueryChain q lines sizes pages
  chain_of pages h = grind (arith, cut_chain, selects, captures_are)

  -- the pages of these lines, so far, and their text once the last is ended
  abbrev so_far : PagesSoFar
  so_far = pages_by q (Some (first_size sizes)) sizes lines

  cut : AreCut sizes (all_pages so_far) (captures q lines)
  cut = all_cut sizes positive (captures q lines)

  ended : pages_text q (all_pages so_far) ≡ text_so_far q so_far ++ page_end (form_of q) None
  ended = grind (arith, flat_map-append, append-nil, page_in_pieces, append_assoc)

  module _ (old new : Option (List ℕ)) where
    -- a front of them
    pub wrote_most : AppendsPrefix old new (text_so_far q so_far ++ page_end (form_of q) None)
        → WrotePagesInPart q lines sizes old new
    wrote_most p = (all_pages so_far, chain_of (all_pages so_far) cut, rw ended p)

    pub wrote_part : AppendsPrefix old new (text_so_far q so_far) → WrotePagesInPart q lines sizes old new
    wrote_part p = wrote_most (prefix_longer old new _ _ p)

    -- all of them
    pub wrote_whole : (number : ℕ) → AllByRecursion HasReadKey so_far.whole
        → Appends old new (text_so_far q so_far ++ page_end (form_of q) None)
        → number ≡ min (length (all_pages so_far)) (2 ^ 64 - 1) → WrotePages q lines sizes old new number
    wrote_whole number keyed text count =
        let chain = chain_of (all_pages so_far) cut in
        let same = same_part q.collapse in
        let law = chain_law member_place place_cmp same place_cmp_total (selected q lines) q.resume sizes
        (all_pages so_far) selects positive chain in
        record {
          pages = all_pages so_far;
          chain = chain;
          joined = law.0;
          rises = rises_collapsed member_place place_cmp same place_cmp_total (selected q lines) q.resume selects;
          full = law.1;
          keys = keys_but_last sizes (all_pages so_far) (captures q lines) positive cut
              (each_join HasReadKey so_far.whole (last_page so_far.rows ∷ []) keyed (tt, tt));
          empty = λ none. one_empty sizes (all_pages so_far)
              (subst (AreCut sizes (all_pages so_far)) (sym (captures_are q lines) ∙ none) cut);
          text = rw ended text;
          count = count;
        }

-- ---- over a known output, a call that succeeds writes one text

pub one_written : (old text : List ℕ) (new new' : Option (List ℕ)) → Appends (Some old) new text
    → Appends (Some old) new' text → new ≡ new'
one_written old text new new' a b = grind arith

pub pages_one : PagesAreOne
pages_one q lines sizes old new new' number number' a b = grind (arith, chain_one, place_cmp_total, one_written)
