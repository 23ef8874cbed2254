-- Texts that stand for themselves.
use Rattle.std.proofs.Common.{◌≡◌, ℕ, ◌<◌, List, length, arith}
use Rattle.cdxj_objects.specs.Texts.{or_missing}

-- a text that is not empty stands for itself
pub text_stands : (s : List ℕ) → 0 < length s → or_missing s ≡ s
text_stands s some = grind arith
