use Rattle.std.proofs.Common.{◌≡◌, ◌+◌, ◌-◌, ◌≤◌, length, drop}
use Rattle.std.specs.List.{prefix_len}
use Rattle.cdxj_objects.specs.Plain.{is_neither}
use Rattle.cdxj_objects.proofs.lanes.place_of_either.Given as goal

abbrev pub invariant-by_lanes : goal.invariant-by_lanes
invariant-by_lanes l = (l.at ≤ l.place) × (l.place ≤ length l.text)
    × (l.place + prefix_len (is_neither l.first l.second) (drop l.place l.text)
    ≡ l.at + prefix_len (is_neither l.first l.second) (drop l.at l.text))

abbrev pub decreases-by_lanes : goal.decreases-by_lanes
decreases-by_lanes l = length l.text - l.place

abbrev pub invariant-by_bytes : goal.invariant-by_bytes
invariant-by_bytes l = (l.place ≤ length l.text)
    × (l.place + prefix_len (is_neither l.first l.second) (drop l.place l.text)
    ≡ l.at + prefix_len (is_neither l.first l.second) (drop l.at l.text))

abbrev pub decreases-by_bytes : goal.decreases-by_bytes
decreases-by_bytes l = length l.text - l.place
