-- How far indexes are read for pages.
use Rattle.std.specs.Prelude.{ℕ, ◌≤◌, List, [], ◌∷◌, ◌++◌, length, take, Option, None, Some}
use Rattle.cdxj_places.specs.Places.{PlaceValue}
use Rattle.cdxj_core.specs.Members.{Member}
use Rattle.source_core.specs.declared.source.Source.{Ghosts}
use Rattle.query_text.specs.Queries.{QueryValue}
use Rattle.page_core.specs.Pages.{Page}
use Rattle.merge_core.specs.Collections.{collection}
use Rattle.merge_core.specs.Spending.{AllGaveWithin}
use Rattle.query_core.specs.PagesWriting.{AreCut}
use Rattle.query_core.specs.QueryPages.{form_of, query_captures}
use Rattle.query_core.specs.WrittenPages.{pages_text}
use Rattle.query_core.specs.Reach.{WroteFirst, captures_text, in_reach}

-- these captures stand written, in pages of these sizes: whole pages, and the rows of a last one
pub record WroteInPages (q : QueryValue) (sizes : List ℕ) (captures : List Member) (old new : Option (List ℕ)) : Type 0
  where
    pub pages : List (Page Member PlaceValue)
    pub rows : List Member
    pub cut : AreCut sizes (pages ++ record { members = rows; next = None } ∷ []) captures
    pub wrote : WroteFirst old new (pages_text q pages ++ captures_text (form_of q) rows)

-- So many captures were written whole. Each source gave no more bytes than its lines have that a page of so many
-- reaches, and what a search takes, two lines and a piece. So it gave no more than all pages reach.
pub record GaveInPages {S : Type 0} (device : Ghosts S) (q : QueryValue) (sizes : List ℕ) (texts : List (List ℕ))
    (indexes : List (List Member)) (old new : Option (List ℕ)) (olds news : List S) : Type 0 where
  pub whole : ℕ
  pub most : whole ≤ length (query_captures q (collection indexes))
  pub wrote : WroteInPages q sizes (take whole (query_captures q (collection indexes))) old new
  pub within : AllGaveWithin device (in_reach q q.resume (Some whole) (collection indexes)) texts indexes olds news
  pub all : AllGaveWithin device (in_reach q q.resume None (collection indexes)) texts indexes olds news
