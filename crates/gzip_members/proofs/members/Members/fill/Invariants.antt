use Rattle.std.proofs.Common.{◌≡◌, List, ℕ, Some, Result, length}
use Rattle.deflate_bits.specs.declared.fault.DeflateFault.{DeflateFault}
use Rattle.gzip_members.specs.Reading.{Moves, taken}
use Rattle.gzip_members.specs.Left.{left_of, work_left}
use Rattle.gzip_members.proofs.members.Members.fill.Given as goal

abbrev pub invariant-text : goal.invariant-text
invariant-text g l = record {
  left : (r : Result (List ℕ × List ℕ) DeflateFault) → left_of l.fn.self ≡ Some r → left_of l.self ≡ Some r;
  moves : Moves (taken l.fn.self.source) (taken l.self.source);
  failures : g.I.Input.failures l.self.source.input ≡ g.I.Input.failures l.fn.self.source.input;
}

abbrev pub decreases-text : goal.decreases-text
decreases-text g l = work_left l.self.body.stage l.self.body.window l.self.source.passed (length l.self.source.ahead)
