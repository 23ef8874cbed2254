-- The text of lines.
use Rattle.std.specs.Prelude.{ℕ, List, flat_map}
use Rattle.cdxj_core.specs.Members.{Member, line_row}

-- the lines one after another
abbrev pub lines_text : List Member → List ℕ
lines_text ms = flat_map line_row ms
