-- Pages of captures, as they come, and what a writer has written of them.
use Rattle.query_core.proofs.Words.{[], ℕ, ◌++◌, ◌+◌, ◌-◌, ◌<◌, ◌^◌, ◌∙◌, ◌∷◌, ◌≡◌, ◌≤◌, ◌⊎◌, AllPositive, Appends}
use Rattle.query_core.proofs.Words.{Appends-join, AppendsPrefix, AreAtMost, AreCut, Bool, Broke, FitsWord, IsSized}
use Rattle.query_core.proofs.Words.{List, Member, None, Option, Page, PageWriter, PagesSoFar, PlaceValue, QueryValue}
use Rattle.query_core.proofs.Words.{Some, Wrote, and_parts, ap, append-nil, append_assoc, arith, at_most, captures_over}
use Rattle.query_core.proofs.Words.{cond, each_join, eqb-false, eqb-true, false, filter, first_positive, first_size}
use Rattle.query_core.proofs.Words.{flat_map-append, form_of, from_view, grows_by, grows_not, grows_part, inl, is_full}
use Rattle.query_core.proofs.Words.{is_some, is_wanted, last_of, later_positive, later_sizes, length, length-append}
use Rattle.query_core.proofs.Words.{list_all, member_place, min, more_after, nat_lt, next_after, next_of, no_pages}
use Rattle.query_core.proofs.Words.{page_end, page_start, place_before, prefix_after, prefix_longer, refl, row_text}
use Rattle.query_core.proofs.Words.{shown_key, suc, sym, take, take-append_seam, take_all, text_so_far, true}
use Rattle.std.proofs.Common.{IfSome}
use Rattle.std.proofs.{lemmas.Bool.ltb-true, lemmas.List.drop_at, lemmas.List.take_at}
use Rattle.page_core.proofs.PageLemmas.{begun-more, page_in_pieces}
use Rattle.query_core.specs.WrittenPages.{IsReadBack, are_sizes}
use Rattle.query_core.proofs.WriterLemmas.{captures, captures_append, end_last, kept_after}
use Rattle.query_core.specs.PagesWriting.{HoldsRows, are_none, full_page, has_all, is_ended, pages_after, turned}
use Rattle.query_core.specs.PagesWriting.{with_capture, with_room, with_row}
use Rattle.query_core.specs.WriterView.{GaveOne, HasRoom, PageState, SamePage, Stands, TakesMore, TookNext, captures_of}
use Rattle.query_core.specs.{WriterView.pages_so_far, WriterView.state_of, declared.selection.Selection.Selection}
use Rattle.std.specs.Prelude.{if◌then◌else◌}

-- ---- the sizes of pages

each_positive : (n : ℕ) (ns : List ℕ) → list_all (λ size. nat_lt 0 size) (n ∷ ns) ≡ true → AllPositive (n ∷ ns)
each_positive n (m ∷ ms) h = grind (arith, and_parts, ltb-true, each_positive m ms)
each_positive n ns h = grind (arith, ltb-true, and_parts)

pub all_positive : (sizes : List ℕ) → are_sizes sizes ≡ true → AllPositive sizes
all_positive [] h = cc
all_positive (n ∷ ns) h = grind (arith, each_positive, and_parts)

-- ---- the last of some captures, and what follows them

-- some have a last
pub ends : (c : List Member) → 0 < length c
    → (before : List Member) × (last : Member) × (c ≡ before ++ last ∷ []) × (last_of c ≡ Some (member_place last))
ends (m ∷ k ∷ c) h = let r = ends (k ∷ c) (omega arith) in (m ∷ r.0, r.1, ap (λ us. m ∷ us) r.2, r.3)
ends (m ∷ []) h = ([], m, refl, refl)
ends [] h = absurd (omega arith)

abbrev next : ℕ → List Member → Option PlaceValue
next = next_after member_place

-- where one more follows
pub next_place : (n : ℕ) (c : List Member) → n < length c → next n c ≡ last_of (take n c)
next_place (suc (suc n)) (x ∷ y ∷ c) h = next_place (suc n) (y ∷ c) (omega arith)
next_place n c h = grind arith

-- where none does
pub next_short : (n : ℕ) (c : List Member) → length c ≤ n → next n c ≡ None
next_short (suc (suc n)) (x ∷ xs) h = next_short (suc n) xs (omega arith)
next_short n c h = grind arith

none_last : (c : List Member) → is_some (last_of c) ≡ false → c ≡ []
none_last (m ∷ k ∷ c) h = let none = none_last (k ∷ c) h in cc
none_last c h = grind arith

-- ---- the text so far

pub whole_prefix : (old new : Option (List ℕ)) (text : List ℕ) → Appends old new text → AppendsPrefix old new text
whole_prefix old new text a = grind (arith, append-nil)

module _ (q : QueryValue) (s : PagesSoFar) where
  text_row : (m : Member) → text_so_far q (with_row s m) ≡ text_so_far q s ++ row_text (form_of q) m
  text_row m = grind (arith, begun-more, append_assoc)

  text_turned : text_so_far q (turned s)
      ≡ text_so_far q s ++ (page_end (form_of q) (shown_key true (last_of s.rows)) ++ page_start (form_of q))
  text_turned = grind (arith, append_assoc, page_in_pieces, append-nil, flat_map-append)

-- what was written of it is a front of the text of more captures
module _ (q : QueryValue) (start now : Option (List ℕ)) where
  abbrev IsFrontOf : PagesSoFar → Type 0
  IsFrontOf s = AppendsPrefix start now (text_so_far q s)

  front_row : (s : PagesSoFar) (m : Member) → IsFrontOf s → IsFrontOf (with_row s m)
  front_row s m p = rw (text_row q s m) (prefix_longer start now _ _ p)

  front_room : (s : PagesSoFar) → IsFrontOf s → IsFrontOf (with_room s)
  front_room s p = elim (has_all s) as (λ b. IsFrontOf (if b then turned s else s)) [
    | true ↦ rw (text_turned q s) (prefix_longer start now _ _ p)
    | false ↦ p
  ]

  front_one : (s : PagesSoFar) (m : Member) → IsFrontOf s → IsFrontOf (with_capture s m)
  front_one s m p =
      let ended = record s { rest = s.rest ++ m ∷ [] } in
      elim (is_ended s) as (λ b. IsFrontOf (if b then ended else with_row (with_room s) m)) [
        | true ↦ p
        | false ↦ front_row (with_room s) m (front_room s p)
      ]

  pub front_more : (s : PagesSoFar) (ms : List Member) → IsFrontOf s → IsFrontOf (pages_after s ms)
  front_more s [] p = p
  front_more s (m ∷ ms) p = front_more (with_capture s m) ms (front_one s m p)

pub pages_join : (s : PagesSoFar) (us vs : List Member) → pages_after s (us ++ vs) ≡ pages_after (pages_after s us) vs
pages_join s [] vs = refl
pages_join s (u ∷ us) vs = pages_join (with_capture s u) us vs

-- ---- the page has room for its rows

-- where the page is full
pub at_limit : (s : PagesSoFar) → has_all s ≡ true → s.limit ≡ Some (length s.rows)
at_limit s f = grind (arith, eqb-true)

module _ {s : PagesSoFar} (h : HoldsRows s) where
  room_holds : is_ended s ≡ false → HoldsRows (with_room s) × (has_all (with_room s) ≡ false)
  room_holds goes = grind (arith, first_positive, later_positive, eqb-false)

  holds_one : (m : Member) → HoldsRows (with_capture s m)
  holds_one m = grind (arith, room_holds, length-append, eqb-false)

pub holds_more : {s : PagesSoFar} (h : HoldsRows s) (ms : List Member) → HoldsRows (pages_after s ms)
holds_more h [] = h
holds_more {s = s} h (m ∷ ms) = holds_more {s = with_capture s m} (holds_one h m) ms

pub none_holds : (limit : Option ℕ) (sizes : List ℕ) → IsSized limit sizes → HoldsRows (no_pages limit sizes)
none_holds limit sizes sized = record { sized = sized; room = grind arith; over = inl refl }

-- ---- one page

abbrev pub page : Option ℕ → List Member → Page Member PlaceValue
page = at_most member_place

-- the pages of these lines, so far
abbrev pub pages_by : QueryValue → Option ℕ → List ℕ → List Member → PagesSoFar
pages_by q limit sizes lines = pages_after (no_pages limit sizes) (captures q lines)

-- more of a list gives a page that begins alike
take_front : {X : Type 0} (n : ℕ) (us vs : List X) → (later : List X) × (take n (us ++ vs) ≡ take n us ++ later)
take_front (suc n) (u ∷ us) vs = grind (arith, take_front n us vs)
take_front X us vs = grind arith

pub page_front : (limit : Option ℕ) (us vs : List Member) → (later : List Member)
    × ((page limit (us ++ vs)).members ≡ (page limit us).members ++ later)
page_front None us vs = (vs, refl)
page_front (Some n) us vs = take_front n us vs

page_rows : (limit : Option ℕ) (rows rest : List Member) (last : Option PlaceValue) → AreAtMost limit rows
    → (limit ≡ Some (length rows) → last ≡ last_of rows) → (rest ≡ []) ⊎ (limit ≡ Some (length rows))
    → page limit (rows ++ rest) ≡ record { members = rows; next = next_of (more_after last rest) last }
page_rows limit rows [] last room is full = grind (arith, append-nil, take_all, next_short)
page_rows limit rows (m ∷ rest) last room is full = grind (arith, take-append_seam, next_place, length-append)

-- these captures are those of the page, and those that follow it
pub record IsOnePage (limit : Option ℕ) (c : List Member) (s : PagesSoFar) : Type 0 where
  pub whole : s.whole ≡ []
  pub left : s.left ≡ []
  pub limit_is : s.limit ≡ limit
  pub split : c ≡ s.rows ++ s.rest
  pub holds : HoldsRows s

one_more_is : {limit : Option ℕ} {c : List Member} {s : PagesSoFar} → IsOnePage limit c s → (m : Member)
    → IsOnePage limit (c ++ m ∷ []) (with_capture s m)
one_more_is o m = let h = holds_one o.holds m in grind (arith, append_assoc, append-nil)

one_after : {limit : Option ℕ} {c : List Member} {s : PagesSoFar} → IsOnePage limit c s → (ms : List Member)
    → IsOnePage limit (c ++ ms) (pages_after s ms)
one_after o [] = rw append-nil o
one_after {c = c} {s} o (m ∷ ms) =
    rw (← append_assoc c (m ∷ []) ms) (one_after {c = c ++ m ∷ []} {s = with_capture s m} (one_more_is o m) ms)

pub one_page : (limit : Option ℕ) (c : List Member) → IsOnePage limit c (pages_after (no_pages limit []) c)
one_page limit c = let o : IsOnePage limit [] (no_pages limit []) = grind (arith, none_holds) in one_after o c

page_at : {limit : Option ℕ} {c : List Member} {s : PagesSoFar} → IsOnePage limit c s → (last : Option PlaceValue)
    → (s.limit ≡ Some (length s.rows) → last ≡ last_of s.rows)
    → page limit c ≡ record { members = s.rows; next = next_of (more_after last s.rest) last }
page_at {limit} {s = s} o last is = let at = page_rows limit s.rows s.rest last in grind (arith, at_limit)

pub page_members : {limit : Option ℕ} {c : List Member} {s : PagesSoFar} → IsOnePage limit c s
    → (page limit c).members ≡ s.rows
page_members {s = s} o = let at = page_at o (last_of s.rows) (λ e. refl) in cc

-- ---- pages of all sizes

abbrev pub Pages : Type 0
Pages = List (Page Member PlaceValue)

abbrev pub last_page : List Member → Page Member PlaceValue
last_page rows = record { members = rows; next = None }

abbrev pub all_pages : PagesSoFar → Pages
all_pages s = s.whole ++ last_page s.rows ∷ []

-- a page more
cut_more : (sizes : List ℕ) (rows later : List Member) (rest : Pages) → length rows ≡ first_size sizes
    → 0 < length later → AreCut (later_sizes sizes) rest later → AreCut sizes (full_page rows ∷ rest) (rows ++ later)
cut_more sizes rows later rest full some h = grind (arith, take_at, length-append, drop_at)

-- the pages from that of the rows on
cut_from : (s : PagesSoFar) → HoldsRows s → are_none s.left ≡ false → (ms : List Member)
    → (pages : Pages) × ((pages_after s ms).whole ≡ s.whole ++ pages) × (are_none (pages_after s ms).left ≡ false)
    × AreCut s.left (pages ++ last_page (pages_after s ms).rows ∷ []) (s.rows ++ ms)
cut_from s h some [] = ([], grind (arith, append-nil), some, rw append-nil (refl, grind arith))
cut_from s h some (m ∷ ms) =
    let r = cut_from (with_capture s m) (holds_one h m) (grind arith) ms in
    grind (arith, cut_more, append_assoc, at_limit)

pub is_sized : (sizes : List ℕ) → AllPositive sizes → IsSized (Some (first_size sizes)) sizes
is_sized sizes positive = grind arith

module _ (sizes : List ℕ) (positive : AllPositive sizes) (c : List Member) where
  abbrev so_far : PagesSoFar
  so_far = pages_after (no_pages (Some (first_size sizes)) sizes) c

  begun_holds : HoldsRows (no_pages (Some (first_size sizes)) sizes)
  begun_holds = none_holds (Some (first_size sizes)) sizes (is_sized sizes positive)

  pub all_cut : AreCut sizes (all_pages so_far) c
  all_cut = let r = cut_from (no_pages (Some (first_size sizes)) sizes) begun_holds (grind arith) c in grind arith

  -- no page is the only one
  pub none_follow : so_far.rest ≡ []
  none_follow =
      let h = holds_more begun_holds c in
      let r = cut_from (no_pages (Some (first_size sizes)) sizes) begun_holds (grind arith) c in grind arith

-- no page has been written, or the next one has captures
abbrev pub HasNext : PagesSoFar → Type 0
HasNext s = (s.whole ≡ []) ⊎ (0 < length s.rows)

pub has_next : (s : PagesSoFar) (ms : List Member) → HasNext s → HasNext (pages_after s ms)
has_next s [] h = h
has_next s (m ∷ ms) h = has_next (with_capture s m) ms (grind (arith, length-append))

-- ---- what a writer has written

more_last : (last : Option PlaceValue) (rest : List Member) (m : Member) → more_after last (rest ++ m ∷ []) ≡ is_some last
more_last last [] m = refl
more_last last (k ∷ rest) m = refl

module _ {q : QueryValue} {s : PagesSoFar} {p : PageState} {start now : Option (List ℕ)} (t : Stands q s p start now)
  where
    -- the writer knows whether the page is full
    pub full_is : HoldsRows s → FitsWord p.limit → is_full p.limit p.given ≡ has_all s
    full_is h fits = grind (arith, eqb-true, eqb-false)

    pub ended_is : HoldsRows s → FitsWord p.limit → p.sizes ≡ [] → is_full p.limit p.given ≡ true → is_ended s ≡ true
    ended_is h fits none full = let is = full_is h fits in grind arith

    -- a capture that follows the only page
    pub stands_followed : (m : Member) (more : Bool) → is_ended s ≡ true → more ≡ is_some p.last
        → Stands q (with_capture s m) (record p { more = more }) start now
    stands_followed m more ended is = grind (arith, more_last)

    module _ {limit : Option ℕ} {c : List Member} (o : IsOnePage limit c s) where
      pub page_is : page limit c ≡ record { members = s.rows; next = next_of p.more p.last }
      page_is = let at = page_at o p.last t.last in grind arith

      -- a page that has its next is the page, whatever follows
      pub decided : p.more ≡ true → (later : List Member) → page limit (c ++ later) ≡ page limit c
      decided more later =
          let at = page_rows limit s.rows (s.rest ++ later) p.last in grind (arith, page_is, append_assoc, at_limit)

      -- where no capture follows, they don't pass the page
      pub few_rows : p.more ≡ false → (limit ≡ Some 0 → ⊥) → AreAtMost limit c
      few_rows h some = grind (arith, append-nil, none_last, at_limit)

      -- of the page are all that don't pass it
      pub among_rows : (earlier tail : List Member) → c ≡ earlier ++ tail → AreAtMost limit earlier
          → length earlier ≤ length s.rows
      among_rows earlier tail split most =
          let long = ap length (sym o.split ∙ split) in grind (arith, length-append, at_limit)

-- captures after the one that follows the only page
pub stands_over : {q : QueryValue} {s : PagesSoFar} {p : PageState} {start now : Option (List ℕ)}
    → Stands q s p start now → HoldsRows s → p.more ≡ true → (ms : List Member) → Stands q (pages_after s ms) p start now
stands_over t h more [] = t
stands_over {s = s} {p} t h more (m ∷ ms) =
    stands_over {s = with_capture s m} (stands_followed t m p.more (grind arith) (grind arith)) (holds_one h m) more ms

module _ {q : QueryValue} {s : PagesSoFar} {w : PageWriter} {start now : Option (List ℕ)}
    (t : TakesMore q s w start now) where
  -- the page is ended, and the next is begun
  pub stands_turned : (p : PageState) (new : Option (List ℕ)) → has_all s ≡ true
      → Appends now new (page_end (form_of q) (shown_key true w.last) ++ page_start (form_of q))
      → p.sizes ≡ later_sizes w.sizes.now → p.limit ≡ Some (first_size p.sizes) → p.given ≡ 0 → p.more ≡ w.more
      → p.last ≡ w.last → p.count ≡ min (w.count + 1) (2 ^ 64 - 1) → IfSome w.last IsReadBack
      → Stands q (with_room s) p start new
  stands_turned p new full a sizes limit none more last count read =
      let text = Appends-join _ _ _ _ _ t.stands.text a in
      grind (arith, at_limit, text_turned, first_positive, later_positive, each_join, length-append)

  -- while it is ended, or the next is begun
  pub turning_front : (new : Option (List ℕ)) → has_all s ≡ true
      → AppendsPrefix now new (page_end (form_of q) (shown_key true w.last) ++ page_start (form_of q))
      → AppendsPrefix start new (text_so_far q (with_room s))
  turning_front new full p = let text = prefix_after _ _ _ _ _ t.stands.text p in grind (arith, at_limit, text_turned)

-- a capture more
module _ (q : QueryValue) (s : PagesSoFar) {start : Option (List ℕ)} (goes : is_ended s ≡ false) (m : Member) where
  -- its page was being begun
  pub room_front : {new : Option (List ℕ)} → AppendsPrefix start new (text_so_far q (with_room s))
      → AppendsPrefix start new (text_so_far q (with_capture s m))
  room_front {new} p = rw goes (front_row q start new (with_room s) m p)

  module _ {v : PageWriter} {mid : Option (List ℕ)} (r : HasRoom q s v start mid) where
    -- its row was written
    pub row_stands : HoldsRows s → (v' : PageWriter) (new : Option (List ℕ)) → SamePage v v'
        → GaveOne v v' (member_place m) → Appends mid new (row_text (form_of q) m)
        → Stands q (with_capture s m) (state_of v') start new
    row_stands h v' new same gave a =
        let text = Appends-join _ _ _ _ _ r.stands.text a in
        grind (arith, room_holds, text_row, length-append, eqb-false, end_last)

    -- a front of its row was written
    pub row_front : (new : Option (List ℕ)) → AppendsPrefix mid new (row_text (form_of q) m)
        → AppendsPrefix start new (text_so_far q (with_capture s m))
    row_front new p = rw (goes, text_row q (with_room s) m) (prefix_after _ _ _ _ _ r.stands.text p)

-- ---- what it wrote of lines

-- the captures of more lines
pub more_lines : (first : PageWriter) (taken more : List Member) → (later : List Member)
    × (pages_so_far first (taken ++ more) ≡ pages_after (pages_so_far first taken) later)
more_lines first taken more =
    let q = first.selection.query.now in
    let from = from_view first.selection.from in (
      kept_after q from (place_before q from taken) (filter (is_wanted q from) more),
      rw (captures_append q from taken more)
          (pages_join (no_pages first.limit first.sizes.now) (captures_over q from taken) _),
    )

pub broke_more : (first : PageWriter) (taken more : List Member) (start now : Option (List ℕ))
    → Broke first taken start now → Broke first (taken ++ more) start now
broke_more first taken more start now broke sized =
    let more = more_lines first taken more in
    rw more.1 (front_more first.selection.query.now start now (pages_so_far first taken) more.0 (broke sized))

module _ {first w : PageWriter} {taken : List Member} {start now : Option (List ℕ)} (s : Wrote first w taken start now)
  where
    pub wrote_front : Broke first taken start now
    wrote_front sized = whole_prefix _ _ _ (s.stands sized).text

    pub wrote_holds : IsSized first.limit first.sizes.now → HoldsRows (pages_so_far first taken)
    wrote_holds sized = holds_more (none_holds first.limit first.sizes.now sized) (captures_of first.selection taken)

    -- one line more, which is a capture or not
    pub took_next : {next : Selection} {m : Member} {is : Bool} → TookNext w.selection next taken m is
        → pages_so_far first (taken ++ m ∷ []) ≡ pages_after (pages_so_far first taken) (cond is (m ∷ []) [])
    took_next took = let same = s.same in grind (arith, pages_join)

    -- where the page isn't ended
    pub goes_on : IsSized first.limit first.sizes.now
        → (w.sizes.now ≡ [] → (is_full w.limit w.given ≡ false) × FitsWord w.limit)
        → is_ended (pages_so_far first taken) ≡ false
    goes_on sized goes = let stands = s.stands sized in let full = full_is stands (wrote_holds sized) in grind arith

-- an output that grows with a line
pub ruleset growing = (grows_not, grows_by, grows_part)
