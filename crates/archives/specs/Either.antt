-- What contracts see of archives of either form.
use Rattle.archives.specs.State.{ArchiveState}
use Rattle.archives.specs.declared.either_archive.EitherArchive.{EitherArchive}
use Rattle.archives.specs.declared.either_archive.EitherArchive.TheVariants.{Plain, Packed, Failed}

-- the state of the archive within
abbrev pub either_state : {P Q F : Type 0} → (P → ArchiveState) → (Q → ArchiveState) → (F → ArchiveState)
    → EitherArchive P Q F → ArchiveState
either_state plain packed failed (Plain a) = plain a
either_state plain packed failed (Packed a) = packed a
either_state plain packed failed (Failed a) = failed a
