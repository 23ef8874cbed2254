-- A head that stands whole in the buffer.
use Rattle.warc_core.proofs.Words.{ℕ, ◌≤◌, List, length, take, arith, take-append-drop, take-take}
use Rattle.warc_core.proofs.Words.{IsVersionLine}
use Rattle.std.proofs.Common.{length-take}
use Rattle.warc_head.specs.Lines.{EndsLine}

version-long : (b : List ℕ) → IsVersionLine (take 10 b) → 10 ≤ length b
version-long b v = grind (arith, length-take 10 b)

-- a text that begins with a version line begins with a line of eight bytes
pub first-line : (b : List ℕ) → IsVersionLine (take 10 b) → EndsLine b 0 8
first-line b v = grind (arith, version-long, take-append-drop, take-take)
