-- The lines of indexes that have to be read for a page.
use Rattle.std.specs.Prelude.{ℕ, zero, suc, ◌≤◌, List, [], ◌∷◌, length, take, Bool, true, not, ◌&&◌, Option, None, Some}
use Rattle.std.specs.Io.KnownBytes.{Appends}
use Rattle.std.specs.Ordering.{is_gt}
use Rattle.cdxj_places.specs.Pairs.{Pair, pair_cmp}
use Rattle.cdxj_places.specs.Places.{PlaceValue}
use Rattle.cdxj_core.specs.Members.{Member, member_pair}
use Rattle.source_core.specs.declared.source.Source.{Ghosts}
use Rattle.query_text.specs.Queries.{QueryValue}
use Rattle.query_text.specs.Matching.{covers}
use Rattle.page_core.specs.Form.{FormValue}
use Rattle.page_core.specs.PageText.{begun}
use Rattle.merge_core.specs.PairOrders.{is_low}
use Rattle.devices.specs.Device.{Grows}
use Rattle.merge_core.specs.Spending.{AllGaveWithin}
use Rattle.merge_core.specs.Collections.{collection}
use Rattle.query_core.specs.PageWriting.{captures_over}
use Rattle.query_core.specs.QueryPages.{form_of, query_page}
use Rattle.query_core.specs.Starts.{start_pair}

-- the pair of the first line after so many
abbrev pub pair_after : ℕ → List Member → Option Pair
pair_after zero [] = None
pair_after zero (m ∷ ms) = Some (member_pair m)
pair_after (suc n) [] = None
pair_after (suc n) (m ∷ ms) = pair_after n ms

-- the pair of the first capture that follows a page of so many, where one does
abbrev pub follower : QueryValue → Option PlaceValue → Option ℕ → List Member → Option Pair
follower q from None lines = None
follower q from (Some n) lines = pair_after n (captures_over q from lines)

-- the pair isn't above the bound, if there is one
abbrev pub is_within : Option Pair → Pair → Bool
is_within None pair = true
is_within (Some bound) pair = not (is_gt (pair_cmp pair bound))

-- The line is of the target's range. It isn't below the start of the page after a place, nor above the capture that
-- follows the page of so many, of lines that rise by place.
abbrev pub in_reach : QueryValue → Option PlaceValue → Option ℕ → List Member → Member → Bool
in_reach q from limit lines m =
    covers q.target m.values.key && not (is_low (start_pair q from) m) && is_within (follower q from limit lines)
    (member_pair m)

-- what has to stand written where these captures of a page are
abbrev pub captures_text : FormValue → List Member → List ℕ
captures_text form [] = []
captures_text form (m ∷ ms) = begun form (m ∷ ms)

-- what was written begins with the text
pub record WroteFirst (old new : Option (List ℕ)) (text : List ℕ) : Type 0 where
  pub middle : Option (List ℕ)
  pub front : Appends old middle text
  pub grows : Grows middle new

-- So many captures of the page were written whole. Each source gave no more bytes than its lines have that a page of so
-- many reaches, and what a search takes, two lines and a piece. So it gave no more than the whole page reaches.
pub record GaveInReach {S : Type 0} (device : Ghosts S) (q : QueryValue) (texts : List (List ℕ))
    (indexes : List (List Member)) (old new : Option (List ℕ)) (olds news : List S) : Type 0 where
  pub whole : ℕ
  pub most : whole ≤ length (query_page q (collection indexes)).members
  pub wrote : WroteFirst old new (captures_text (form_of q) (take whole (query_page q (collection indexes)).members))
  pub within : AllGaveWithin device (in_reach q q.resume (Some whole) (collection indexes)) texts indexes olds news
  pub page : AllGaveWithin device (in_reach q q.resume q.limit (collection indexes)) texts indexes olds news
