-- What contracts see of an archive whose input failed before it was known how it keeps its records.
use Rattle.std.specs.Prelude.{ℕ, ◌-◌, ◌^◌, nat_lt, true, List, length, Option, None, Some, if◌then◌else◌}
use Rattle.archives.specs.Packing.{Packing, Packed, Plain, packing_of}
use Rattle.archives.specs.State.{ArchiveState}

-- how it keeps its records, by its bytes if they are known
abbrev pub packing_known : Option (List ℕ) → Packing
packing_known None = Plain
packing_known (Some bytes) = packing_of bytes

-- its bytes if they are known; nothing is said of a compressed archive of 2^63 bytes or more
abbrev pub bytes_in : Packing → List ℕ → Option (List ℕ)
bytes_in Plain bytes = Some bytes
bytes_in Packed bytes = if nat_lt (2 ^ 63 - 1) (length bytes) then None else Some bytes

abbrev pub bytes_known : Option (List ℕ) → Option (List ℕ)
bytes_known None = None
bytes_known (Some bytes) = bytes_in (packing_of bytes) bytes

-- nothing was read of it
abbrev pub failed_state : Option (List ℕ) → ℕ → ArchiveState
failed_state remaining failures = record {
  packing = packing_known remaining;
  is_open = true;
  offset = 0;
  ahead = bytes_known remaining;
  failures = failures;
}
