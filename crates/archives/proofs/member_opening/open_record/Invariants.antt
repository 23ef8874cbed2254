use Rattle.std.proofs.Common.{◌≡◌, ◌-◌, ◌^◌, ◌≤◌, IfSome}
use Rattle.gzip_members.specs.Reading.{taken}
use Rattle.archives.specs.MemberReading.{file_ahead, IsLater}
use Rattle.archives.proofs.member_opening.open_record.Given as goal

abbrev pub invariant-members : goal.invariant-members
invariant-members g l = record {
  later : IfSome (file_ahead (taken l.fn.members.source)) (λ bytes.
      IsLater l.fn.members.source.passed bytes (taken l.members.source));
  onward : l.fn.members.source.passed ≤ l.members.source.passed;
  failures : g.I.Input.failures l.members.source.input ≡ g.I.Input.failures l.fn.members.source.input;
}

abbrev pub decreases-members : goal.decreases-members
decreases-members g l = 2 ^ 63 - l.members.source.passed
