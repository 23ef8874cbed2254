use Rattle.std.proofs.Common.{◌≡◌, ◌+◌, ◌-◌, ◌≤◌, length, drop}
use Rattle.std.specs.List.{count_by}
use Rattle.page_core.specs.Rows.{is_hidden}
use Rattle.page_core.proofs.hidden.count_before_filler.Given as goal

abbrev pub invariant-by_lanes : goal.invariant-by_lanes
invariant-by_lanes l = (l.end ≤ length l.bytes) × (l.count ≤ l.end)
    × (l.count + count_by is_hidden (drop l.end l.bytes) ≡ count_by is_hidden l.bytes)

abbrev pub decreases-by_lanes : goal.decreases-by_lanes
decreases-by_lanes l = length l.bytes - l.end
