use Rattle.std.proofs.Common.{◌∙◌, arith}
use Rattle.gzip_members.specs.Reading.{taken}
use Rattle.gzip_members.proofs.MovesLemmas.{moves-trans}
use Rattle.gzip_members.proofs.HeaderLemmas.{past-step, past-refused}
use Rattle.gzip_members.proofs.checked_input.CheckedInput.past.Goals as goal

pub bytes-preserved : goal.bytes-preserved
bytes-preserved g c = record {
  continues = past-step c.args.count c.bytes.left c.in-Ok._byte (taken c.args.self.now) (taken c.bytes.self) (taken c.byte.new.self) c.bytes-test.true
      c.bytes.invariant.continues c.in-Ok.ensures.byte;
  count = omega (arith, c.in-Ok.ensures.passed);
  moves = moves-trans (taken c.args.self.now) (taken c.bytes.self) (taken c.byte.new.self) c.bytes.invariant.moves c.in-Ok.ensures.moves;
  failures = c.in-Ok.ensures.failures ∙ c.bytes.invariant.failures;
}

pub returns-in-Err-clause-past : goal.returns-in-Err-clause-past
returns-in-Err-clause-past g c =
    past-refused c.args.count c.bytes.left c.in-Err.fault (taken c.args.self.now) (taken c.bytes.self) (taken c.byte.new.self) c.bytes-test.true
    c.bytes.invariant.continues c.in-Err.ensures.byte
