-- Calls that take bytes or read ahead, one after another.
use Rattle.std.proofs.Common.{arith}
use Rattle.gzip_members.specs.Reading.{Moves, Taken}

pub moves-refl : (now : Taken) → Moves now now
moves-refl now = record { onward = omega arith; counted = λ total e. e }

pub moves-trans : (old mid new : Taken) → Moves old mid → Moves mid new → Moves old new
moves-trans old mid new p q = record { onward = omega (arith, p.onward, q.onward); counted = λ total e. q.counted total (p.counted total e) }
