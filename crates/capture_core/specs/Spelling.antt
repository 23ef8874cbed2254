-- The entry that a line spells, and lines that are held.
use Rattle.std.specs.Prelude.{◌≡◌, ◌⊎◌, ℕ, ◌+◌, ◌-◌, ◌==◌, Bool, true, nat_eq, nat_lt, List, [], ◌∷◌, ◌++◌, length, take, drop}
use Rattle.std.specs.Prelude.{unwrap_or, if◌then◌else◌}
use Rattle.std.specs.List.{after_last, before_first, ends_with, position_or_len}
use Rattle.cdxj_core.specs.declared.limit.TheConstants.{LINE_LIMIT}
use Rattle.cdxj_core.specs.Entries.{EntryValue, line_text, HasLine}
use Rattle.cdxj_core.specs.Lines.{LineValue, body_of, entry_of_values, line_in, line_value}
use Rattle.cdxj_core.specs.ObjectMembers.{all_members}
use Rattle.cdxj_places.specs.Bytes.{line_feed, quote}
use Rattle.cdxj_places.specs.Pair.{is_space}

-- the byte behind a file name
abbrev pub nul : ℕ
nul = 0

-- the values of nothing
abbrev pub no_values : LineValue
no_values = line_value [] [] (all_members []) 0

-- the entry that a line spells
unfoldable pub entry_in : List ℕ → EntryValue
entry_in line = entry_of_values (unwrap_or (line_in LINE_LIMIT (body_of line)) no_values)

abbrev pub is_line_feed : ℕ → Bool
is_line_feed b = b == line_feed

abbrev pub is_quote : ℕ → Bool
is_quote b = b == quote

-- the first line, with its line feed
abbrev pub first_line : List ℕ → List ℕ
first_line bytes = take (position_or_len is_line_feed bytes + 1) bytes

-- what stands between the last quote of a line and its closing: a quote, a brace and a line feed
abbrev pub last_quoted : List ℕ → List ℕ
last_quoted line = after_last is_quote (take (length line - 3) line)

-- the last byte is a line feed
abbrev pub ends_with_feed : List ℕ → Bool
ends_with_feed bytes = ends_with nat_eq bytes (line_feed ∷ [])

-- what stands between the first line and the last byte, or else in the line's end
abbrev pub held_name : List ℕ → List ℕ
held_name bytes =
    let size = length (first_line bytes) in
    if nat_lt size (length bytes) then take (length bytes - 1 - size) (drop size bytes)
    else last_quoted (first_line bytes)

-- the file name stands in the line's end, or was put behind the line, with a NUL after it
abbrev pub KeepsName : List ℕ → List ℕ → List ℕ → Type 0
KeepsName line name bytes =
    ((last_quoted line ≡ name) × (bytes ≡ line)) ⊎ (bytes ≡ line ++ (name ++ nul ∷ []))

-- bytes that begin with the line of an entry, and have its file name; its offset
pub record HoldsLine (e : EntryValue) (bytes : List ℕ) (offset : ℕ) : Type 0 where
  pub has_line : HasLine LINE_LIMIT e
  pub line_is : first_line bytes ≡ line_text e
  pub alone : ends_with_feed bytes ≡ true → first_line bytes ≡ bytes
  pub key_is : before_first is_space bytes ≡ e.key
  pub filename_is : held_name bytes ≡ e.filename
  pub offset_is : offset ≡ e.offset
