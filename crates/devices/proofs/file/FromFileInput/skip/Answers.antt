use Rattle.devices.proofs.PositionLemmas.{consumed_by_move}
use Rattle.std.proofs.Common.{arith}
use Rattle.devices.proofs.file.FromFileInput.skip.Goals as goal

pub returns-in-Ok-clause-bytes : goal.returns-in-Ok-clause-bytes
returns-in-Ok-clause-bytes g c =
    consumed_by_move _ _ _ _ (omega (arith, c.min-most.ensures)) c.args.self.now.size_rule c.in-Ok.ensures.moves
