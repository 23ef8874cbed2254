use Rattle.std.proofs.Common.{arith, length-take}
use Rattle.gzip_members.proofs.ReadAheadLemmas.{consumed}
use Rattle.gzip_members.proofs.read_ahead.ReadAhead.consume.Goals as goal

pub returns : goal.returns
returns c = grind (arith, length-take, consumed)
