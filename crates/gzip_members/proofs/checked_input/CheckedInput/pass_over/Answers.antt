use Rattle.std.proofs.Common.{◌∙◌, arith}
use Rattle.gzip_members.specs.Reading.{taken}
use Rattle.gzip_members.proofs.MovesLemmas.{moves-trans}
use Rattle.gzip_members.proofs.SkipLemmas.{past-more}
use Rattle.gzip_members.proofs.checked_input.CheckedInput.pass_over.Goals as goal

pub bytes-preserved : goal.bytes-preserved
bytes-preserved g c =
    let now = taken c.bytes.self in
    let new = taken c.skip.new.self in
    let s = c.in_ok-skipped.ensures in
    record {
      goes = past-more c.args.count c.bytes.left c.in_ok-skipped.skipped (taken c.args.self.now).ahead now.ahead new.ahead
          s.bytes.0 c.bytes.invariant.goes s.bytes.1 s.bytes.2 s.bound;
      count = omega (arith, s.passed, s.bound, c.bytes.invariant.count);
      moves = moves-trans (taken c.args.self.now) now new c.bytes.invariant.moves s.moves;
      failures = s.failures ∙ c.bytes.invariant.failures;
    }
