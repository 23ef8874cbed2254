-- Archives that are opened over an input, by its first bytes.
use Rattle.std.specs.Prelude.{◌≡◌, ℕ, ◌^◌, ◌<◌, List, length, Option, Some, IfSome}
use Rattle.archives.specs.Packing.{Packed, packing_of}
use Rattle.archives.specs.State.{ArchiveState, IsUnread}

-- Nothing was read of the archive. Where the bytes of the input are known, the first two say how it keeps its records,
-- and they are its bytes; nothing is said of the bytes of a compressed archive of 2^63 or more.
pub record OpensOver (before : Option (List ℕ)) (s : ArchiveState) : Type 0 where
  pub unread : IsUnread s
  pub failures : s.failures ≡ 0
  pub packing : IfSome before (λ bytes. s.packing ≡ packing_of bytes)
  pub bytes : IfSome before (λ bytes. (s.packing ≡ Packed → length bytes < 2 ^ 63) → s.ahead ≡ Some bytes)
