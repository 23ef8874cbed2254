-- The first byte that is held is given.
use Rattle.archives.proofs.Words.{◌≡◌, ℕ, ◌<◌, List, [], ◌∷◌, ◌++◌, None, Some, Option, append_assoc, arith, length, take}
use Rattle.std.specs.Prelude.{slice_set}
use Rattle.std.specs.Io.KnownBytes.{Consumes, prepend_known}
use Rattle.archives.specs.Looked.{first_bytes}
use Rattle.archives.specs.declared.looked.First.{First}

pub gives-first : (left : Option (List ℕ)) (held now : First) (byte : ℕ) (piece : List ℕ)
    → (byte ∷ []) ++ first_bytes now ≡ first_bytes held → 0 < length piece
    → Consumes (prepend_known (first_bytes held) left) (prepend_known (first_bytes now) left)
    (take 1 (slice_set piece 0 byte))
gives-first None held now byte piece e some = tt
gives-first (Some rest) held now byte [] e some = absurd (omega arith)
gives-first (Some rest) held now byte (p ∷ piece) e some = grind (arith, append_assoc)
