use Rattle.std.proofs.Common.{◌-◌, length}
use Rattle.cdxj_objects.specs.Walk.{IsBlankTo}
use Rattle.cdxj_objects.proofs.tokens.skip_blanks.Given as goal

abbrev pub invariant-blanks : goal.invariant-blanks
invariant-blanks l = IsBlankTo l.text l.at l.place

abbrev pub decreases-blanks : goal.decreases-blanks
decreases-blanks l = length l.text - l.place
