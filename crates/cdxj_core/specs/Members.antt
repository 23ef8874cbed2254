-- The entry of a line: its nine values, and the line.
use Rattle.std.specs.Prelude.{◌≡◌, ℕ, ◌<◌, ◌≤◌, List, [], ◌∷◌, ◌++◌, length, Option, None, Some, option_map, Result, Ok}
use Rattle.std.specs.Prelude.{Err, if◌then◌else◌}
use Rattle.std.specs.Str.{is_utf8}
use Rattle.cdxj_places.specs.Bytes.{line_feed}
use Rattle.cdxj_places.specs.Pairs.{Pair}
use Rattle.cdxj_places.specs.Places.{PlaceValue}
use Rattle.cdxj_core.specs.declared.fault.LineFault.{LineFault}
use Rattle.cdxj_core.specs.declared.fault.LineFault.TheVariants as faults
use Rattle.cdxj_core.specs.Entries.{EntryValue, body_text}
use Rattle.cdxj_core.specs.Lines.{LineValue, line_in, line_place, body_of, entry_values}

-- what an index has of a capture: the nine values, and the line without its line feed
pub record Member : Type 0 where
  pub values : LineValue
  pub line : List ℕ

abbrev pub member_place : Member → PlaceValue
member_place m = line_place m.values

abbrev pub member_pair : Member → Pair
member_pair m = (m.values.key, m.values.stamp)

-- its line with a line feed
abbrev pub line_row : Member → List ℕ
line_row m = m.line ++ line_feed ∷ []

-- the member that the line of an entry is
abbrev pub entry_member : EntryValue → Member
entry_member e = record { values = entry_values e; line = body_text e }

-- the member that a line is, with or without its line feed, where it has an entry
abbrev pub line_entry : ℕ → List ℕ → Option Member
line_entry limit line =
    if is_utf8 (body_of line)
    then option_map (λ values. record { values = values; line = body_of line })
    (line_in limit (body_of line))
    else None

-- What a reading of a line answers. A line that is too long is that first; memory may be refused
-- for any other.
abbrev pub IsLineReading : ℕ → List ℕ → Result Member LineFault → Type 0
IsLineReading limit line (Ok member) = line_entry limit line ≡ Some member
IsLineReading limit line (Err faults.LineTooLong) = limit ≤ length (body_of line)
IsLineReading limit line (Err faults.BadLine) = (length (body_of line) < limit)
    × (line_entry limit line ≡ None)
IsLineReading limit line (Err faults.Memory) = length (body_of line) < limit
