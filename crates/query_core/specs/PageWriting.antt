-- A page that is being written, by the lines that were taken for it.
use Rattle.std.specs.Prelude.{ℕ, ◌^◌, ◌<◌, ◌≤◌, ⊤, ◌&&◌, List, [], ◌∷◌, length, Bool, false}
use Rattle.std.specs.Prelude.{◌==◌, Option, None, Some, if◌then◌else◌}
use Rattle.std.specs.List.{filter}
use Rattle.std.specs.Option.{is_some}
use Rattle.cdxj_places.specs.Places.{PlaceValue, place_cmp}
use Rattle.query_text.specs.Queries.{QueryValue}
use Rattle.query_text.specs.Matching.{matches}
use Rattle.query_text.specs.Collapses.{same_part}
use Rattle.cdxj_core.specs.Members.{Member, member_place}
use Rattle.page_core.specs.Pages.{is_above, end_place, kept}

-- the line matches the query and stands above the place
abbrev pub is_wanted : QueryValue → Option PlaceValue → Member → Bool
is_wanted q from m = matches q m.values && is_above member_place place_cmp from m

-- those of these lines, collapsed from the place on
abbrev pub captures_over : QueryValue → Option PlaceValue → List Member → List Member
captures_over q from lines = kept member_place (same_part q.collapse) from (filter (is_wanted q from) lines)

-- the place of the last of them, collapsed or not, or else that after which the page begins
abbrev pub place_before : QueryValue → Option PlaceValue → List Member → Option PlaceValue
place_before q from lines = end_place member_place from (filter (is_wanted q from) lines)

-- the place of the last of them
abbrev pub last_of : List Member → Option PlaceValue
last_of = end_place member_place None

-- no more than the limit, if there is one
abbrev pub AreAtMost : Option ℕ → List Member → Type 0
AreAtMost None members = ⊤
AreAtMost (Some n) members = length members ≤ n

-- one of these follows the page that ends with this place, if there is one
abbrev pub more_after : Option PlaceValue → List Member → Bool
more_after last [] = false
more_after last (m ∷ ms) = is_some last

-- the page has as many as its limit
abbrev pub is_full : Option ℕ → ℕ → Bool
is_full None given = false
is_full (Some n) given = n == given

-- the place of the last that it has room for, after one more
abbrev pub last_after : Option ℕ → ℕ → Option PlaceValue → PlaceValue → Option PlaceValue
last_after limit given last place = if is_full limit given then Some place else last

-- the limit is a number of 64 bits
abbrev pub FitsWord : Option ℕ → Type 0
FitsWord None = ⊤
FitsWord (Some n) = n < 2 ^ 64

-- the place from which a further page goes on
abbrev pub next_of : Bool → Option PlaceValue → Option PlaceValue
next_of more last = if more then last else None
