-- Captures that are cut into pages, as they come.
use Rattle.std.specs.Prelude.{◌≡◌, ◌⊎◌, ℕ, ◌<◌, ◌≤◌, ⊤, List, [], ◌∷◌, ◌++◌, length, take, drop, ◌&&◌, Bool}
use Rattle.std.specs.Prelude.{true, false, Option, None, Some, IfSome, if◌then◌else◌}
use Rattle.cdxj_places.specs.Places.{PlaceValue}
use Rattle.query_text.specs.Queries.{QueryValue}
use Rattle.cdxj_core.specs.Members.{Member}
use Rattle.page_core.specs.Pages.{Page, AllPositive, first_size, later_sizes}
use Rattle.page_core.specs.PageText.{begun}
use Rattle.query_core.specs.WrittenPages.{IsReadBack, pages_text}
use Rattle.query_core.specs.PageWriting.{AreAtMost, is_full, last_of}
use Rattle.query_core.specs.QueryPages.{form_of}

-- the captures, cut into pages of these sizes
abbrev pub AreCut : List ℕ → List (Page Member PlaceValue) → List Member → Type 0
AreCut sizes [] captures = ⊥
AreCut sizes (page ∷ []) captures =
    (page ≡ record { members = captures; next = None }) × (length captures ≤ first_size sizes)
AreCut sizes (page ∷ other ∷ rest) captures =
    (page ≡ record { members = take (first_size sizes) captures; next = last_of (take (first_size sizes) captures) })
    × (first_size sizes < length captures)
    × AreCut (later_sizes sizes) (other ∷ rest) (drop (first_size sizes) captures)

-- the page's key, if it has one, is read as its place
abbrev pub HasReadKey : Page Member PlaceValue → Type 0
HasReadKey page = IfSome page.next IsReadBack

-- Whole pages, the rows of one more, and the captures that follow the only page. The limit of the page of
-- these rows; if all pages are written, its size and those of the pages after it.
pub record PagesSoFar : Type 0 where
  pub whole : List (Page Member PlaceValue)
  pub rows : List Member
  pub rest : List Member
  pub limit : Option ℕ
  pub left : List ℕ

-- before the first capture
abbrev pub no_pages : Option ℕ → List ℕ → PagesSoFar
no_pages limit sizes = record { whole = []; rows = []; rest = []; limit = limit; left = sizes }

-- a page that others follow
abbrev pub full_page : List Member → Page Member PlaceValue
full_page rows = record { members = rows; next = last_of rows }

-- the page is ended, and the next is begun
abbrev pub turned : PagesSoFar → PagesSoFar
turned s = record s {
  whole = s.whole ++ full_page s.rows ∷ [];
  rows = [];
  limit = Some (first_size (later_sizes s.left));
  left = later_sizes s.left;
}

abbrev pub has_all : PagesSoFar → Bool
has_all s = is_full s.limit (length s.rows)

-- the next is begun if the page is full
abbrev pub with_room : PagesSoFar → PagesSoFar
with_room s = if has_all s then turned s else s

abbrev pub with_row : PagesSoFar → Member → PagesSoFar
with_row s m = record s { rows = s.rows ++ m ∷ [] }

abbrev pub are_none : List ℕ → Bool
are_none [] = true
are_none sizes = false

-- the only page is full
abbrev pub is_ended : PagesSoFar → Bool
is_ended s = are_none s.left && has_all s

-- a capture later
abbrev pub with_capture : PagesSoFar → Member → PagesSoFar
with_capture s m = if is_ended s then record s { rest = s.rest ++ m ∷ [] } else with_row (with_room s) m

-- these captures later
abbrev pub pages_after : PagesSoFar → List Member → PagesSoFar
pages_after s [] = s
pages_after s (m ∷ ms) = pages_after (with_capture s m) ms

abbrev pub text_so_far : QueryValue → PagesSoFar → List ℕ
text_so_far q s = pages_text q s.whole ++ begun (form_of q) s.rows

-- if all pages are written, the sizes are positive, and the first of them is the limit
abbrev pub IsSized : Option ℕ → List ℕ → Type 0
IsSized limit [] = ⊤
IsSized limit (n ∷ ns) = AllPositive (n ∷ ns) × (limit ≡ Some n)

-- the page has room for its rows, and only an ended one is followed
pub record HoldsRows (s : PagesSoFar) : Type 0 where
  pub sized : IsSized s.limit s.left
  pub room : AreAtMost s.limit s.rows
  pub over : (s.rest ≡ []) ⊎ (is_ended s ≡ true)
