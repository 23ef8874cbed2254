-- What contracts see of a file as an input.
use Rattle.std.specs.Prelude.{ℕ, nat_lt, min, if◌then◌else◌}
use Rattle.devices.specs.declared.file.FromFile.{FromFile}

-- the file within, how often it failed, and how many bytes it had left when its size was asked, less those that were
-- moved
abbrev pub file_of : {F : Type 0} {g : _} → FromFile F g → F
file_of f = f.file

abbrev pub file_failures : {F : Type 0} {g : _} → FromFile F g → ℕ
file_failures f = f.failures

abbrev pub file_left : {F : Type 0} {g : _} → FromFile F g → ℕ
file_left f = f.left

-- how many of the bytes that are left a skip moves: as many as were asked for, unless they are fewer than the least
abbrev pub skippable : ℕ → ℕ → ℕ → ℕ
skippable least count left = if nat_lt (min count left) least then 0 else min count left
