-- What contracts see of a `FileSource`.
use Rattle.std.specs.Prelude.{ℕ}
use Rattle.source_core.specs.declared.file.FileSource.{FileSource}

-- the file within
abbrev pub file_of : {F : Type 0} {g : _} → FileSource F g → F
file_of s = s.file

-- its size when it was made
abbrev pub file_size : {F : Type 0} {g : _} → FileSource F g → ℕ
file_size s = s.size

-- how often it failed
abbrev pub file_failures : {F : Type 0} {g : _} → FileSource F g → ℕ
file_failures s = s.failures

-- how many bytes it gave
abbrev pub file_gave : {F : Type 0} {g : _} → FileSource F g → ℕ
file_gave s = s.gave
