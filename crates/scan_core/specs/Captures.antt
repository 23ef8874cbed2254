-- The captures of archives, and their lines.
use Rattle.std.specs.Prelude.{List, flat_map, map}
use Rattle.cdxj_core.specs.Entries.{EntryValue}
use Rattle.cdxj_core.specs.Members.{Member, entry_member}
use Rattle.index_core.specs.Indexing.{in_places}

abbrev pub all_captures : List (List EntryValue) → List EntryValue
all_captures archives = flat_map (λ captures. captures) archives

-- the lines of all captures, in the order of places
abbrev pub captured_lines : List (List EntryValue) → List Member
captured_lines archives = map entry_member (in_places (all_captures archives))
