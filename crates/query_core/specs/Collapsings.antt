-- What a writer keeps of the capture directly before, to leave out those that have their part in common with it.
use Rattle.std.specs.Prelude.{ℕ, List, Bool, false, bytes_eq, Option, None, Some, option_map}
use Rattle.cdxj_places.specs.Places.{PlaceValue}
use Rattle.query_text.specs.Collapses.{part_of}
use Rattle.query_text.specs.declared.collapse.Collapse.{Collapse}

-- by what captures are collapsed, and that part of the capture before, if there was one
pub record CollapsingValue : Type 0 where
  pub by : Collapse
  pub part : Option (List ℕ)

abbrev pub place_part : Collapse → PlaceValue → List ℕ
place_part by place = part_of by place.key place.stamp

-- what is kept where the capture before stands at this place, if there was one
abbrev pub collapsing_at : Option Collapse → Option PlaceValue → Option CollapsingValue
collapsing_at None place = None
collapsing_at (Some by) place = Some (record { by = by; part = option_map (place_part by) place })

-- the same, a place later
abbrev pub collapsing_after : Option CollapsingValue → PlaceValue → Option CollapsingValue
collapsing_after None place = None
collapsing_after (Some c) place = Some (record { by = c.by; part = Some (place_part c.by place) })

-- the part before, if there was one, is this one
abbrev pub has_part : Option (List ℕ) → List ℕ → Bool
has_part None part = false
has_part (Some before) part = bytes_eq before part

-- a capture at the place is left out
abbrev pub repeats_part : Option CollapsingValue → PlaceValue → Bool
repeats_part None place = false
repeats_part (Some c) place = has_part c.part (place_part c.by place)
