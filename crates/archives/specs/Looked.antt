-- What contracts see of an input whose first bytes were looked at.
use Rattle.std.specs.Prelude.{◌≡◌, ℕ, ◌<◌, Bool, false, List, [], ◌∷◌, length, Option, IfSome, if◌then◌else◌}
use Rattle.std.specs.Io.KnownBytes.{Consumes, IsAtEnd}
use Rattle.devices.specs.Device.{next_count}
use Rattle.archives.specs.Packing.{packing_of}
use Rattle.archives.specs.declared.looked.First.{First}
use Rattle.archives.specs.declared.looked.First.TheVariants.{Nothing, One, Two}

-- the bytes that are held
abbrev pub first_bytes : First → List ℕ
first_bytes Nothing = []
first_bytes (One a) = a ∷ []
first_bytes (Two a b) = a ∷ b ∷ []

-- These are the first two bytes of an input, or all that it has. If it failed, they may be fewer.
pub record LooksAt (bytes : List ℕ) (has_failed : Bool) (before after : Option (List ℕ)) : Type 0 where
  pub front : Consumes before after bytes
  pub whole : has_failed ≡ false → length bytes < 2 → IsAtEnd after

-- these bytes say how an archive keeps its records, unless the input failed
abbrev pub TellsPacking : List ℕ → Bool → Option (List ℕ) → Type 0
TellsPacking first has_failed before = has_failed ≡ false → IfSome before (λ bytes. packing_of first ≡ packing_of bytes)

-- the input's count of failures: one more if it failed
abbrev pub count_if : Bool → ℕ → ℕ
count_if has_failed n = if has_failed then next_count n else n
