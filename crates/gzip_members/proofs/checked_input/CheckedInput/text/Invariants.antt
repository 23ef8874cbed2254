use Rattle.std.proofs.Common.{◌≡◌, ◌-◌, ◌^◌}
use Rattle.gzip_members.specs.Header.{name_in}
use Rattle.gzip_members.specs.Reading.{Moves, taken}
use Rattle.gzip_members.proofs.HeaderLemmas.{Continues}
use Rattle.gzip_members.proofs.checked_input.CheckedInput.text.Given as goal

abbrev pub invariant-bytes : goal.invariant-bytes
invariant-bytes g l = record {
  continues : Continues name_in name_in (taken l.fn.self) (taken l.self);
  moves : Moves (taken l.fn.self) (taken l.self);
  failures : g.I.Input.failures l.self.input ≡ g.I.Input.failures l.fn.self.input;
}

abbrev pub decreases-bytes : goal.decreases-bytes
decreases-bytes g l = 2 ^ 63 - l.self.passed
