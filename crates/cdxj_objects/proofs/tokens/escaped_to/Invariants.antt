use Rattle.std.proofs.Common.{◌+◌, ◌-◌, ◌≤◌, length}
use Rattle.cdxj_objects.specs.Walk.{GoesOnTo}
use Rattle.cdxj_objects.proofs.tokens.escaped_to.Given as goal

abbrev pub invariant-escapes : goal.invariant-escapes
invariant-escapes l = record {
  inside : l.end ≤ length l.text;
  order : l.at + 1 ≤ l.end;
  goes_on : GoesOnTo l.text (l.at + 1) l.end;
}

abbrev pub decreases-escapes : goal.decreases-escapes
decreases-escapes l = length l.text - l.end
