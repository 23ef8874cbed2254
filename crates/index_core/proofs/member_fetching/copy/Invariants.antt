use Rattle.std.proofs.Common.{option_map}
use Rattle.gzip_members.specs.Left.{behind_of, left_of}
use Rattle.gzip_members.specs.Reading.{taken, total_of}
use Rattle.index_core.proofs.member_fetching.copy.Given as goal

abbrev pub ghosts-copy_known : goal.ghosts-copy_known
ghosts-copy_known g a = record {
  behind = option_map behind_of (left_of a.members);
  from = a.members.source.passed;
  total = total_of (taken a.members.source);
}
