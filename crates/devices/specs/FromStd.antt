-- What contracts see of the readers and writers of std as devices.
use Rattle.std.specs.Prelude.{ℕ}
use Rattle.devices.specs.declared.standard.FromRead.{FromRead}
use Rattle.devices.specs.declared.standard.FromWrite.{FromWrite}

-- the reader within, and how often it failed
abbrev pub reader_of : {R : Type 0} → FromRead R → R
reader_of f = f.reader

abbrev pub read_failures : {R : Type 0} → FromRead R → ℕ
read_failures f = f.failures

-- the writer within, and how often it failed
abbrev pub writer_of : {W : Type 0} → FromWrite W → W
writer_of f = f.writer

abbrev pub write_failures : {W : Type 0} → FromWrite W → ℕ
write_failures f = f.failures
