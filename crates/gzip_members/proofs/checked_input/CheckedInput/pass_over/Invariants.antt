use Rattle.std.proofs.Common.{◌≡◌, ◌+◌}
use Rattle.gzip_members.specs.Reading.{Moves, taken}
use Rattle.gzip_members.proofs.SkipLemmas.{GoesPast}
use Rattle.gzip_members.proofs.checked_input.CheckedInput.pass_over.Given as goal

abbrev pub invariant-bytes : goal.invariant-bytes
invariant-bytes g l = record {
  goes : GoesPast l.fn.count l.left (taken l.fn.self).ahead (taken l.self).ahead;
  count : l.self.passed + l.left ≡ l.fn.self.passed + l.fn.count;
  moves : Moves (taken l.fn.self) (taken l.self);
  failures : g.I.Input.failures l.self.input ≡ g.I.Input.failures l.fn.self.input;
}

abbrev pub decreases-bytes : goal.decreases-bytes
decreases-bytes g l = l.left
