-- Where the reading of indexes for a page begins.
use Rattle.std.specs.Prelude.{ℕ, List, codes, cond, Option, None, Some}
use Rattle.std.specs.Ordering.{is_gt}
use Rattle.cdxj_places.specs.Pairs.{Pair, pair_cmp, place_pair}
use Rattle.cdxj_places.specs.Places.{PlaceValue}
use Rattle.query_text.specs.Queries.{QueryValue}

-- no stamp is below it
abbrev pub first_stamp : List ℕ
first_stamp = codes "00000000000000"

-- the greater of the two
abbrev pub later_pair : Pair → Option PlaceValue → Pair
later_pair pair None = pair
later_pair pair (Some place) = cond (is_gt (pair_cmp (place_pair place) pair)) (place_pair place) pair

-- the pair below which no line is of the page after this place
abbrev pub start_pair : QueryValue → Option PlaceValue → Pair
start_pair q from = later_pair (q.target.text, first_stamp) from
