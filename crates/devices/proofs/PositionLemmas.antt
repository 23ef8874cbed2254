-- A move of a stream passes over the bytes that a read would have returned.
use Rattle.std.proofs.Common.{◌≡◌, ◌≤◌, ◌+◌, ◌++◌, ℕ, List, Option, None, Some, length, arith}
use Rattle.std.proofs.Common.{take, drop, replicate, drop-drop, take-append-drop, length-take-le, length-drop}
use Rattle.std.proofs.lemmas.List.{length-replicate}
use Rattle.std.specs.Io.KnownBytes.{Consumes}
use Rattle.devices.specs.Positions.{Stream, left_of, moved_on, size_left}

pub consumed_by_move : (old new : Option Stream) (n left : ℕ) → n ≤ left → left ≤ size_left old left
    → new ≡ moved_on n old → (bs : List ℕ) × Consumes (left_of old) (left_of new) bs × (length bs ≡ n)
consumed_by_move None new n left below fits moved = (replicate n 0, tt, length-replicate n 0)
consumed_by_move (Some s) new n left below fits moved =
    let rest = drop s.position s.bytes in
    let passed : rest ≡ take n rest ++ drop (s.position + n) s.bytes = grind (arith, take-append-drop n rest, drop-drop n s.position s.bytes) in
    rw moved (take n rest, passed, grind (arith, length-take-le, length-drop))
