use Rattle.std.proofs.Common.{◌≡◌, ℕ, ◌≤◌, length, option_map}
use Rattle.serde_json.specs.Data.{Members}
use Rattle.cdxj_objects.specs.FoundMembers.{found_of, members_read}
use Rattle.cdxj_objects.specs.FoundViews.{value_view}
use Rattle.cdxj_objects.specs.ObjectMembers.{map_members}
use Rattle.cdxj_objects.proofs.JsonReading.{members_from}
use Rattle.cdxj_objects.proofs.found_members.FoundMembers.read.Given as goal

abbrev pub invariant-members : goal.invariant-members
invariant-members l =
    (n : ℕ) × (found : Members) × (length l.reader ≤ n)
    × (members_read 126 l.initial.reader ≡ members_from 126 n found l.reader)
    × (map_members (option_map value_view) l.members ≡ found_of found)

abbrev pub decreases-members : goal.decreases-members
decreases-members l = length l.reader
