use Rattle.std.proofs.Common.{◌≡◌}
use Rattle.gzip_members.specs.Reading.{Moves, taken}
use Rattle.gzip_members.specs.Left.{left_of}
use Rattle.gzip_members.proofs.RestLemmas.{PassedTo}
use Rattle.gzip_members.proofs.members.Members.pass_rest.Given as goal

abbrev pub invariant-rest : goal.invariant-rest
invariant-rest g l = record {
  passed : PassedTo l.had l.counter (left_of l.fn.self) (left_of l.self);
  moves : Moves (taken l.fn.self.source) (taken l.self.source);
  failures : g.I.Input.failures l.self.source.input ≡ g.I.Input.failures l.fn.self.source.input;
}
