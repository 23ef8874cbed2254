-- What contracts see of a compressed archive.
use Rattle.std.specs.Prelude.{true, false, None}
use Rattle.gzip_members.specs.Reading.{taken}
use Rattle.archives.specs.declared.packed_archive.PackedFile.{PackedFile}
use Rattle.archives.specs.declared.packed_archive.PackedFile.TheVariants.{Ready, NoMemory, Away}
use Rattle.archives.specs.MemberReading.{file_ahead, within_file}
use Rattle.archives.specs.Packing.{Packed}
use Rattle.archives.specs.State.{ArchiveState}

-- what is known of a compressed archive, by its file; nothing is said of the bytes of a file of
-- 2^63 bytes or more
abbrev pub packed_state : {I : Type 0} {g : _} → PackedFile I g → ArchiveState
packed_state {I} {g} (Ready members reader) = record {
  packing = Packed;
  is_open = true;
  offset = members.source.passed;
  ahead = file_ahead (taken members.source);
  failures = g.failures members.source.input;
}
packed_state {I} {g} (NoMemory input) = record {
  packing = Packed;
  is_open = true;
  offset = 0;
  ahead = within_file 0 (g.remaining input);
  failures = g.failures input;
}
packed_state {I} {g} Away = record { packing = Packed; is_open = false; offset = 0; ahead = None; failures = 0 }
