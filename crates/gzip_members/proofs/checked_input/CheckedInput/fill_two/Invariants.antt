use Rattle.std.proofs.Common.{◌≡◌, ◌-◌, length}
use Rattle.std.specs.Io.KnownBytes.{Keeps, prepend_known}
use Rattle.gzip_members.proofs.checked_input.CheckedInput.fill_two.Given as goal

abbrev pub invariant-bytes : goal.invariant-bytes
invariant-bytes g l = record {
  bytes : Keeps (prepend_known l.fn.self.ahead (g.I.Input.remaining l.fn.self.input)) (prepend_known l.self.ahead (g.I.Input.remaining l.self.input));
  checksum : l.self.checksum ≡ l.fn.self.checksum;
  passed : l.self.passed ≡ l.fn.self.passed;
  failures : g.I.Input.failures l.self.input ≡ g.I.Input.failures l.fn.self.input;
}

abbrev pub decreases-bytes : goal.decreases-bytes
decreases-bytes g l = 2 - length l.self.ahead
