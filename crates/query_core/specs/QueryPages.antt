-- The pages of a query, and their texts.
use Rattle.std.specs.Prelude.{ℕ, List, Bool, Option, None, option_map, if◌then◌else◌}
use Rattle.std.specs.List.{filter}
use Rattle.cdxj_core.specs.declared.field.Field.{Field}
use Rattle.cdxj_places.specs.Places.{PlaceValue, place_cmp, resume_text}
use Rattle.query_text.specs.Collapses.{same_part}
use Rattle.query_text.specs.declared.output.OutputFormat.{OutputFormat}
use Rattle.query_text.specs.declared.output.OutputFormat.TheVariants as output
use Rattle.query_text.specs.Queries.{QueryValue}
use Rattle.query_text.specs.Matching.{matches}
use Rattle.cdxj_core.specs.Members.{Member, member_place}
use Rattle.page_core.specs.Form.{FormValue, Text, Cdxj, Json}
use Rattle.page_core.specs.Pages.{Page, collapsed, page_of, IsChain}
use Rattle.page_core.specs.PageText.{page_text}

-- those of these lines that match the query
abbrev pub selected : QueryValue → List Member → List Member
selected q lines = filter (λ m. matches q m.values) lines

-- the captures that a query asks for, of lines that rise by place: those that it selects above the place of its resume
-- key, collapsed from there on
abbrev pub query_captures : QueryValue → List Member → List Member
query_captures q lines = collapsed member_place place_cmp (same_part q.collapse) (selected q lines) q.resume

-- the page that a query asks for, of lines that rise by place
abbrev pub query_page : QueryValue → List Member → Page Member PlaceValue
query_page q lines = page_of member_place place_cmp (same_part q.collapse) (selected q lines) q.resume q.limit

-- the pages of these sizes, of such lines
abbrev pub IsQueryChain : QueryValue → List Member → List ℕ → List (Page Member PlaceValue) → Type 0
IsQueryChain q lines sizes pages = IsChain member_place place_cmp (same_part q.collapse) (selected q lines) q.resume
    sizes pages

abbrev pub output_form : OutputFormat → List Field → FormValue
output_form output.Text fields = Text fields
output_form output.Json fields = Json fields
output_form output.Cdxj fields = Cdxj

abbrev pub form_of : QueryValue → FormValue
form_of q = output_form q.output q.fields

-- the resume key, where it is to be shown and there is one
abbrev pub shown_key : Bool → Option PlaceValue → Option (List ℕ)
shown_key shows next = if shows then option_map resume_text next else None

-- the text of a page that is asked for by itself
abbrev pub answer_text : QueryValue → Page Member PlaceValue → List ℕ
answer_text q page = page_text (form_of q) page.members (shown_key q.show_resume_key page.next)

-- the text of a page among others, which has its key where a further one follows
abbrev pub chain_text : QueryValue → Page Member PlaceValue → List ℕ
chain_text q page = page_text (form_of q) page.members (option_map resume_text page.next)
