use Rattle.std.proofs.Common.{◌≡◌, ◌-◌, ◌^◌, ◌<◌, ◌≤◌, length}
use Rattle.std.specs.Io.KnownBytes.{prepend_known}
use Rattle.devices.specs.LineReading.{LineSoFar, CountsTaken}
use Rattle.devices.proofs.input_lines.InputLines.next.Given as goal

abbrev pub invariant-loop-self : goal.invariant-loop-self
invariant-loop-self g l = record {
  most : l.self.most ≡ l.fn.self.most;
  so_far : LineSoFar l.fn.self.most (prepend_known l.fn.self.buffer (g.I.Input.remaining l.fn.input))
      (prepend_known l.self.buffer (g.I.Input.remaining l.input)) l.self.line;
  count : CountsTaken (prepend_known l.fn.self.buffer (g.I.Input.remaining l.fn.input))
      (prepend_known l.self.buffer (g.I.Input.remaining l.input)) l.fn.self.taken l.self.taken;
  risen : 0 < length l.self.line → l.fn.self.taken < l.self.taken;
  from : l.fn.self.taken ≤ l.self.taken;
  failures : g.I.Input.failures l.input ≡ g.I.Input.failures l.fn.input;
}

abbrev pub decreases-loop-self : goal.decreases-loop-self
decreases-loop-self g l = 2 ^ 63 - l.self.taken
