use Rattle.std.proofs.Common.{◌≡◌, ◌≤◌, ◌-◌, length, take}
use Rattle.cdxj_places.proofs.abbreviation.common_length.Given as goal

abbrev pub invariant-loop-length : goal.invariant-loop-length
invariant-loop-length l = (l.length ≤ length l.a) × (take l.length l.a ≡ take l.length l.b)

abbrev pub decreases-loop-length : goal.decreases-loop-length
decreases-loop-length l = length l.a - l.length
