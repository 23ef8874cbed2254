use Rattle.std.proofs.Common.{◌≡◌, ◌+◌, ◌-◌, ◌≤◌, length, drop}
use Rattle.std.specs.List.{prefix_len}
use Rattle.cdxj_objects.specs.Plain.{is_printable_ascii}
use Rattle.cdxj_objects.proofs.printable.printable_length.Given as goal

abbrev pub invariant-by_lanes : goal.invariant-by_lanes
invariant-by_lanes l = (l.end ≤ length l.text)
    × (l.end + prefix_len is_printable_ascii (drop l.end l.text) ≡ prefix_len is_printable_ascii l.text)

abbrev pub decreases-by_lanes : goal.decreases-by_lanes
decreases-by_lanes l = length l.text - l.end

abbrev pub invariant-by_bytes : goal.invariant-by_bytes
invariant-by_bytes l = (l.end ≤ length l.text)
    × (l.end + prefix_len is_printable_ascii (drop l.end l.text) ≡ prefix_len is_printable_ascii l.text)

abbrev pub decreases-by_bytes : goal.decreases-by_bytes
decreases-by_bytes l = length l.text - l.end
