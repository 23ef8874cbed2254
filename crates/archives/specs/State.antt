-- What contracts see of an archive.
use Rattle.std.specs.Prelude.{◌≡◌, ℕ, Bool, true, List, Option}
use Rattle.archives.specs.Packing.{Packing}

pub record ArchiveState : Type 0 where
  -- how its records are kept
  pub packing : Packing
  -- whether it can be read on: no fault was met
  pub is_open : Bool
  -- from where what comes next is found
  pub offset : ℕ
  -- the bytes from there on, if they are known
  pub ahead : Option (List ℕ)
  -- how many calls of its input have failed
  pub failures : ℕ

-- nothing was read of the archive
pub record IsUnread (s : ArchiveState) : Type 0 where
  pub readable : s.is_open ≡ true
  pub start : s.offset ≡ 0

-- how an archive keeps its records, and the bytes that it has left, if they are known
pub record ToldArchive : Type 0 where
  pub packing : Packing
  pub bytes : Option (List ℕ)

abbrev pub told_of : ArchiveState → ToldArchive
told_of s = record { packing = s.packing; bytes = s.ahead }
