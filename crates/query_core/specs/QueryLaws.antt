-- Laws of the definitions that the contracts cite.
use Rattle.std.specs.Prelude.{◌≡◌, ◌↔◌, ℕ, ◌<◌, ◌≤◌, List, [], ◌∷◌, ◌++◌, length, flat_map, true, Option, None, Some, Ok}
use Rattle.std.specs.Prelude.{MatchOption}
use Rattle.std.specs.List.{AllByRecursion, AllZip, filter}
use Rattle.cdxj_places.specs.Places.{PlaceValue, place_cmp, resume_text}
use Rattle.cdxj_places.specs.Rising.{IsFirst, IsIn, Rises}
use Rattle.cdxj_core.specs.declared.field.Field.{Field}
use Rattle.cdxj_core.specs.Indexes.{IsIndex}
use Rattle.cdxj_core.specs.Members.{Member, member_place}
use Rattle.query_text.specs.declared.query.TheConstants.{QUERY_LIMIT}
use Rattle.query_text.specs.declared.output.OutputFormat.TheVariants.{Cdxj}
use Rattle.query_text.specs.Collapses.{same_part}
use Rattle.query_text.specs.Matching.{matches}
use Rattle.query_text.specs.Queries.{QueryValue, query_of}
use Rattle.query_text.specs.Resuming.{text_with_key}
use Rattle.cdxj_core.specs.Fields.{field_name, field_named}
use Rattle.page_core.specs.Pages.{Page, AllPositive, collapsed, is_above}
use Rattle.merge_core.specs.Collections.{OverIndexes, all_lines, collection}
use Rattle.query_core.specs.declared.fault.AnswerFault.{AnswerFault}
use Rattle.query_core.specs.IndexFaults.{IsAnswerFaultOf, NamesNoLine}
use Rattle.query_core.specs.PageWriting.{is_wanted}
use Rattle.query_core.specs.WrittenPages.{EndsWithKey}
use Rattle.query_core.specs.QueryPages.{IsQueryChain, answer_text, query_captures, query_page, selected, shown_key}

-- without `collapse` nothing is left out
abbrev pub AllAreKept : Type 0
AllAreKept = (lines : List Member) (place : Option PlaceValue)
    → collapsed member_place place_cmp (same_part None) lines place
    ≡ filter (is_above member_place place_cmp place) lines

-- what a query selects of indexes rises by place
abbrev pub SelectedRise : Type 0
SelectedRise = (q : QueryValue) (indexes : List (List Member))
    → Rises member_place place_cmp (selected q (collection indexes))

-- these are the lines of the indexes that match, of those at one place the first
abbrev pub SelectedAreFirst : Type 0
SelectedAreFirst = (q : QueryValue) (indexes : List (List Member)) (m : Member)
    → IsIn m (selected q (collection indexes))
    ↔ (IsFirst member_place place_cmp m (all_lines indexes) × (matches q m.values ≡ true))

-- a line that a query selects of some indexes is selected too if further indexes follow them
abbrev pub AddedOnlyAdd : Type 0
AddedOnlyAdd = (q : QueryValue) (some others : List (List Member)) (m : Member)
    → IsIn m (selected q (collection some)) → IsIn m (selected q (collection (some ++ others)))

-- over indexes, the text of a page in cdxj without a key is an index of its captures
abbrev pub CdxjPageIsIndex : Type 0
CdxjPageIsIndex = (limit : ℕ) (texts : List (List ℕ)) (indexes : List (List Member)) (q : QueryValue)
    → AllZip (IsIndex limit) texts indexes → q.output ≡ Cdxj
    → shown_key q.show_resume_key (query_page q (collection indexes)).next ≡ None
    → IsIndex limit (answer_text q (query_page q (collection indexes))) (query_page q (collection indexes)).members

-- the captures of the pages of lines that rise by place rise too, match the query and stand above the place that the
-- first page begins after
abbrev pub PagesRise : Type 0
PagesRise = (q : QueryValue) (lines : List Member) (sizes : List ℕ) (pages : List (Page Member PlaceValue))
    → Rises member_place place_cmp lines
    → AllPositive sizes → IsQueryChain q lines sizes pages
    → Rises member_place place_cmp (flat_map (λ page. page.members) pages)
    × AllByRecursion (λ m. is_wanted q q.resume m ≡ true) (flat_map (λ page. page.members) pages)

-- The pages of a query that is asked again and again, each time for so many captures after the place that the page
-- before gives.
abbrev pub AreAskedInTurn : QueryValue → ℕ → List Member → Option PlaceValue → List (Page Member PlaceValue) → Type 0
AreAskedInTurn q size lines after [] = ⊥
AreAskedInTurn q size lines after (page ∷ pages) =
    (page ≡ query_page (record q { resume = after; limit = Some size }) lines)
    × MatchOption page.next (pages ≡ []) (λ next. AreAskedInTurn q size lines (Some next) pages)

-- they are the chain of pages of that size
abbrev pub AskedAreChain : Type 0
AskedAreChain = (q : QueryValue) (size : ℕ) (lines : List Member) (pages : List (Page Member PlaceValue))
    → AreAskedInTurn q size lines q.resume pages ↔ IsQueryChain q lines (size ∷ []) pages

-- Pages of a query, one after another, each of so many captures after the place that the one before gives, over indexes
-- that grow meanwhile: further indexes follow those that were there.
abbrev pub ArePagesMeanwhile : QueryValue → ℕ → Option PlaceValue → List (List Member) → List (Page Member PlaceValue)
    → Type 0
ArePagesMeanwhile q size after indexes [] = ⊥
ArePagesMeanwhile q size after indexes (page ∷ pages) =
    (page ≡ query_page (record q { resume = after; limit = Some size }) (collection indexes))
    × MatchOption page.next (pages ≡ []) (λ next. (added : List (List Member))
    × ArePagesMeanwhile q size (Some next) (indexes ++ added) pages)

-- without `collapse` such pages have all captures that the query asks for of the first indexes
abbrev pub GrowingLosesNone : Type 0
GrowingLosesNone = (q : QueryValue) (size : ℕ) (indexes : List (List Member)) (pages : List (Page Member PlaceValue))
    → q.collapse ≡ None → 0 < size → ArePagesMeanwhile q size q.resume indexes pages → (m : Member)
    → IsIn m (query_captures q (collection indexes)) → IsIn m (flat_map (λ page. page.members) pages)

-- The resume key that a page ends with continues the page: put into the query's text, in the place of an older one or
-- after all else, where the text isn't too long, it means the same query after the page's last capture.
abbrev pub KeysContinue : Type 0
KeysContinue = (text : List ℕ) (query : QueryValue) (page : Page Member PlaceValue) → query_of QUERY_LIMIT text
    ≡ Ok query
    → (ended : EndsWithKey page) → length (text_with_key (resume_text (member_place ended.last)) text) ≤ QUERY_LIMIT
    → query_of QUERY_LIMIT (text_with_key (resume_text (member_place ended.last)) text)
    ≡ Ok (record query { resume = Some (member_place ended.last) })

-- over indexes no fault names a line
abbrev pub NoLineIsAtFault : Type 0
NoLineIsAtFault = (told : List (Option (List ℕ))) (fault : AnswerFault) → IsAnswerFaultOf told fault
    → OverIndexes told (λ texts indexes. NamesNoLine fault)

-- a field is named by its name
abbrev pub NamesNameFields : Type 0
NamesNameFields = (field : Field) → field_named (field_name field) ≡ Some field
