use Rattle.std.proofs.Common.{option_map}
use Rattle.gzip_members.specs.Left.{behind_of, left_of}
use Rattle.gzip_members.specs.Reading.{taken, total_of}
use Rattle.archives.proofs.member_reading.judge.Given as goal

abbrev pub ghosts-judge_known : goal.ghosts-judge_known
ghosts-judge_known g a = record {
  behind = option_map behind_of (left_of a.members);
  from = a.members.source.passed;
  total = total_of (taken a.members.source);
}
