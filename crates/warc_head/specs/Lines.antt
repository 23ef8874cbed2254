-- The lines of a head, each ended by CR LF (ISO 28500:2017, clause 4).
use Rattle.std.specs.Prelude.{◌≡◌, ℕ, ◌+◌, ◌-◌, ◌≤◌, ◌==◌, ◌&&◌, ◌||◌, not, nat_eq, Bool, true, false, List, [], ◌∷◌}
use Rattle.std.specs.Prelude.{◌++◌, length, take, drop, reverse, Result, Ok, Err, if◌then◌else◌}
use Rattle.std.specs.List.{ends_with, list_all}
use Rattle.warc_head.specs.Bytes.{tab, lf, cr, space}
use Rattle.warc_head.specs.declared.fault.HeadFault.{HeadFault}
use Rattle.warc_head.specs.declared.fault.HeadFault.TheVariants as faults

-- space or tab
abbrev pub is_white_space : ℕ → Bool
is_white_space b = b == space || b == tab

-- neither CR nor LF
abbrev pub is_content : ℕ → Bool
is_content b = not (b == cr || b == lf)

abbrev pub line_end : List ℕ
line_end = cr ∷ lf ∷ []

-- the byte in front of the first line
abbrev pub with_first : ℕ → List (List ℕ) → List (List ℕ)
with_first b [] = (b ∷ []) ∷ []
with_first b (line ∷ lines) = (b ∷ line) ∷ lines

-- the lines of a text, cut after each LF
unfoldable pub lines_of : List ℕ → List (List ℕ)
lines_of [] = []
lines_of (b ∷ bs) = if b == lf then (b ∷ []) ∷ lines_of bs else with_first b (lines_of bs)

-- a line without its CR LF; no other CR or LF may stand in it
abbrev pub line_content : List ℕ → Result (List ℕ) HeadFault
line_content line =
    let text = take (length line - 2) line in
    if ends_with nat_eq line line_end && list_all is_content text then Ok text else Err faults.FieldLine

-- the text begins with this line, in which no CR or LF stands, and goes on behind its CR LF
pub record BeginsWithLine (text line rest : List ℕ) : Type 0 where
  pub spelled : text ≡ line ++ (line_end ++ rest)
  pub plain : list_all is_content line ≡ true

-- the line from this offset on ends with the CR LF at another
pub record EndsLine (text : List ℕ) (at end : ℕ) : Type 0 where
  pub order : at ≤ end
  pub within : end + 2 ≤ length text
  pub line : BeginsWithLine (drop at text) (take (end - at) (drop at text)) (drop (end + 2) text)

-- the line goes on with the field before it
abbrev pub continues : List ℕ → Bool
continues [] = false
continues (b ∷ bs) = is_white_space b

-- without the white space in front
abbrev pub trim_front : List ℕ → List ℕ
trim_front [] = []
trim_front (b ∷ bs) = if is_white_space b then trim_front bs else b ∷ bs

-- without the white space at the end
abbrev pub trim_end : List ℕ → List ℕ
trim_end bs = reverse (trim_front (reverse bs))

-- without the white space at both ends
abbrev pub trim : List ℕ → List ℕ
trim bs = trim_end (trim_front bs)
