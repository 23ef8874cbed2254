-- What contracts see of pages that are being written.
use Rattle.std.specs.Prelude.{◌≡◌, ℕ, ◌+◌, ◌-◌, ◌^◌, min, List, [], ◌∷◌, ◌++◌, length, Bool, false, cond, Option, Some}
use Rattle.std.specs.Prelude.{option_map}
use Rattle.std.specs.List.{AllByRecursion}
use Rattle.std.specs.Io.KnownBytes.{Appends}
use Rattle.devices.specs.Device.{AppendsPrefix}
use Rattle.cdxj_places.specs.declared.place.Place.{Place}
use Rattle.cdxj_places.specs.Places.{PlaceValue}
use Rattle.cdxj_places.specs.PlaceViews.{place_view}
use Rattle.cdxj_core.specs.Members.{Member}
use Rattle.query_core.specs.declared.selection.Selection.{Selection}
use Rattle.query_core.specs.declared.page_writer.PageEnd.{PageEnd}
use Rattle.query_core.specs.declared.page_writer.PageWriter.{PageWriter}
use Rattle.query_text.specs.Queries.{QueryValue}
use Rattle.query_core.specs.Collapsings.{collapsing_at}
use Rattle.query_core.specs.PageWriting.{FitsWord, captures_over, last_after, last_of, more_after, next_of}
use Rattle.query_core.specs.PageWriting.{place_before}
use Rattle.query_core.specs.PagesWriting.{HasReadKey, HoldsRows, IsSized, PagesSoFar, is_ended, no_pages, pages_after}
use Rattle.query_core.specs.PagesWriting.{text_so_far, with_room}

abbrev pub from_view : Option Place → Option PlaceValue
from_view = option_map place_view

-- ---- a selection

-- its query and its place stay
abbrev pub IsSame : Selection → Selection → Type 0
IsSame old new = (new.query ≡ old.query) × (new.from ≡ old.from)

-- its captures of these lines
abbrev pub captures_of : Selection → List Member → List Member
captures_of s taken = captures_over s.query.now (from_view s.from) taken

-- these lines were taken: the next is compared with the last of them that is wanted
abbrev pub Selects : Selection → List Member → Type 0
Selects s taken = s.collapsing ≡ collapsing_at s.query.now.collapse (place_before s.query.now (from_view s.from) taken)

-- after these lines one more was taken, which is a capture or not
pub record TookNext (old new : Selection) (taken : List Member) (m : Member) (is : Bool) : Type 0 where
  pub selects : Selects new (taken ++ m ∷ [])
  pub captures : captures_of old (taken ++ m ∷ []) ≡ captures_of old taken ++ cond is (m ∷ []) []

-- ---- a writer

-- it begins a page of this query and this limit, or pages of these sizes
pub record IsWriterOf (q : QueryValue) (limit : Option ℕ) (sizes : List ℕ) (w : PageWriter) : Type 0 where
  pub query_is : w.selection.query.now ≡ q
  pub from_is : from_view w.selection.from ≡ q.resume
  pub limit_is : w.limit ≡ limit
  pub sizes_are : w.sizes.now ≡ sizes

-- it took no line
pub record KeepsLines (old new : PageWriter) : Type 0 where
  pub selection : new.selection ≡ old.selection
  pub more : new.more ≡ old.more

-- it writes the same page
pub record SamePage (old new : PageWriter) : Type 0 where
  pub lines : KeepsLines old new
  pub limit : new.limit ≡ old.limit
  pub sizes : new.sizes ≡ old.sizes
  pub count : new.count ≡ old.count

-- a capture at this place was written
pub record GaveOne (old new : PageWriter) (place : PlaceValue) : Type 0 where
  pub given : new.given ≡ min (old.given + 1) (2 ^ 64 - 1)
  pub last : new.last ≡ last_after old.limit new.given old.last place

-- how its last page ends
pub record IsEndOf (w : PageWriter) (end : PageEnd) : Type 0 where
  pub given : end.given ≡ w.given
  pub next : end.next ≡ next_of w.more w.last
  pub count : end.count ≡ min (w.count + 1) (2 ^ 64 - 1)

-- what it keeps of the page, and of those before it
pub record PageState : Type 0 where
  pub limit : Option ℕ
  pub sizes : List ℕ
  pub given : ℕ
  pub more : Bool
  pub last : Option PlaceValue
  pub count : ℕ

abbrev pub state_of : PageWriter → PageState
state_of w = record {
  limit = w.limit;
  sizes = w.sizes.now;
  given = w.given;
  more = w.more;
  last = w.last;
  count = w.count;
}

-- these pages stand written, and so much is kept of them
pub record Stands (q : QueryValue) (s : PagesSoFar) (p : PageState) (start now : Option (List ℕ)) : Type 0 where
  pub text : Appends start now (text_so_far q s)
  pub limit : p.limit ≡ s.limit
  pub sizes : p.sizes ≡ s.left
  pub given : p.given ≡ min (length s.rows) (2 ^ 64 - 1)
  pub last : s.limit ≡ Some (length s.rows) → p.last ≡ last_of s.rows
  pub more : p.more ≡ more_after p.last s.rest
  pub keyed : AllByRecursion HasReadKey s.whole
  pub count : p.count ≡ min (length s.whole) (2 ^ 64 - 1)

-- the same where the page has room for a capture, or may be followed by another
pub record TakesMore (q : QueryValue) (s : PagesSoFar) (w : PageWriter) (start now : Option (List ℕ)) : Type 0 where
  pub query : w.selection.query.now ≡ q
  pub stands : Stands q s (state_of w) start now
  pub holds : HoldsRows s
  pub goes : is_ended s ≡ false

-- the same where the page has room
pub record HasRoom (q : QueryValue) (s : PagesSoFar) (w : PageWriter) (start now : Option (List ℕ)) : Type 0 where
  pub stands : Stands q (with_room s) (state_of w) start now
  pub fits : FitsWord w.limit

-- ---- what it wrote of these lines, where it was the first before them

abbrev pub pages_so_far : PageWriter → List Member → PagesSoFar
pages_so_far first taken = pages_after (no_pages first.limit first.sizes.now) (captures_of first.selection taken)

pub record Wrote (first w : PageWriter) (taken : List Member) (start now : Option (List ℕ)) : Type 0 where
  pub same : IsSame first.selection w.selection
  pub selects : w.more ≡ false → Selects w.selection taken
  pub stands : IsSized first.limit first.sizes.now
      → Stands first.selection.query.now (pages_so_far first taken) (state_of w) start now

-- a front of what these lines make of the page, or of the pages
abbrev pub Broke : PageWriter → List Member → Option (List ℕ) → Option (List ℕ) → Type 0
Broke first taken start now = IsSized first.limit first.sizes.now
    → AppendsPrefix start now (text_so_far first.selection.query.now (pages_so_far first taken))
