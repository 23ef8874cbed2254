use Rattle.std.proofs.Common.{◌-◌, ◌≤◌, length}
use Rattle.cdxj_objects.specs.ObjectMembers.{AllMembers}
use Rattle.cdxj_objects.specs.Walk.{IsPlainSpan}
use Rattle.cdxj_objects.proofs.WalkLaw.{HasWalked}
use Rattle.cdxj_objects.proofs.walk.members_at.Given as goal

abbrev pub invariant-members : goal.invariant-members
invariant-members l = record {
  inside : l.at ≤ length l.text;
  walked : HasWalked l.text l.object l.at l.members;
  stand : AllMembers (IsPlainSpan l.text) l.members;
}

abbrev pub decreases-members : goal.decreases-members
decreases-members l = length l.text - l.at
