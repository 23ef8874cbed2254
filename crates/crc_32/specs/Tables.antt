-- Tables of the checksum.
use Rattle.std.specs.Prelude.{◌≡◌, ℕ, ◌+◌, ◌*◌, ◌/◌, ◌%◌, ◌<◌, ◌≤◌, List, length, slice_index}
use Rattle.crc_32.specs.Crc.{crc_bits}

-- what each byte leaves in the register, with zeros behind it: the first n entries, of which each table has 256
pub record HasEntries (entries : List ℕ) (n : ℕ) : Type 0 where
  pub enough : n ≤ length entries
  pub each : (i : ℕ) → i < n → slice_index entries i ≡ crc_bits (8 * (i / 256 + 1)) (i % 256)
