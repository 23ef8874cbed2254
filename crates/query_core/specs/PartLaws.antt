-- What was read of sources of any bytes, and what is given of it.
use Rattle.std.specs.Prelude.{ℕ, ◌≤◌, List, length, map, Option, Some}
use Rattle.std.specs.List.{AllByRecursion, sum}
use Rattle.std.specs.Io.KnownBytes.{Appends}
use Rattle.cdxj_core.specs.Members.{Member}
use Rattle.cdxj_places.specs.Places.{PlaceValue}
use Rattle.cdxj_places.specs.TextLines.{lines}
use Rattle.page_core.specs.Pages.{Page}
use Rattle.query_text.specs.Queries.{QueryValue}
use Rattle.merge_core.specs.SourceLines.{IsLineOf}
use Rattle.query_core.specs.declared.report.Report.{Report}
use Rattle.query_core.specs.Answering.{AnsweredParts}
use Rattle.query_core.specs.Paging.{WrotePagesOfParts}
use Rattle.query_core.specs.QueryPages.{answer_text}
use Rattle.query_core.specs.WrittenPages.{pages_text}

-- each of the captures is a line of one of the texts
abbrev pub StandIn : List (List ℕ) → List Member → Type 0
StandIn texts captures = AllByRecursion (IsLineOf (map Some texts)) captures

-- the captures of the page that was written stand in the sources
abbrev pub AnsweredStandInSources : Type 0
AnsweredStandInSources = (q : QueryValue) (texts : List (List ℕ)) (old new : Option (List ℕ)) (report : Report)
    → AnsweredParts q texts old new report
    → (page : Page Member PlaceValue) × StandIn texts page.members × Appends old new (answer_text q page)

-- and so do those of all pages
abbrev pub PagesStandInSources : Type 0
PagesStandInSources = (q : QueryValue) (texts : List (List ℕ)) (sizes : List ℕ) (old new : Option (List ℕ)) (number : ℕ)
    → WrotePagesOfParts q texts sizes old new number
    → (pages : List (Page Member PlaceValue)) × AllByRecursion (λ page. StandIn texts page.members) pages
    × Appends old new (pages_text q pages)

-- no more captures are given than lines were read, and no more lines than there are
abbrev pub GivenAreRead : Type 0
GivenAreRead = (q : QueryValue) (texts : List (List ℕ)) (old new : Option (List ℕ)) (report : Report)
    → AnsweredParts q texts old new report
    → (report.given ≤ report.lines) × (report.lines ≤ sum (map (λ text. length (lines text)) texts))
