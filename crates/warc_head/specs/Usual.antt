-- A head at the front of a text, found by its empty line.
use Rattle.std.specs.Prelude.{◌≡◌, ℕ, ◌+◌, ◌-◌, ◌<◌, ◌≤◌, List, ◌++◌, length, take, drop, Ok, slice_index}
use Rattle.warc_head.specs.Bytes.{lf}
use Rattle.warc_head.specs.Fields.{Field, fields_of}
use Rattle.warc_head.specs.Lines.{line_end}
use Rattle.warc_head.specs.Parts.{HeadRead, field_lines_in, parts_of}

-- the text goes on behind its first CR LF CR LF, which ends at this size
pub record ClosesAt (text : List ℕ) (size : ℕ) : Type 0 where
  pub long : 12 ≤ size
  pub within : size ≤ length text
  pub closing : drop (size - 4) text ≡ line_end ++ (line_end ++ drop size text)
  pub first : (k : ℕ) → k + 4 < size → slice_index text (k + 1) ≡ lf → slice_index text (k + 3) ≡ lf → ⊥

-- the text begins with a head of this size, which has these fields
pub record BeginsWithHead (text : List ℕ) (size : ℕ) (fields : List Field) : Type 0 where
  pub closes : ClosesAt text size
  pub gives : fields_of (field_lines_in (take size text)) ≡ Ok fields

-- the text begins with this head, which says this
pub record IsHeadOf (text : List ℕ) (p : HeadRead) : Type 0 where
  pub closes : ClosesAt text (length p.raw)
  pub front : p.raw ≡ take (length p.raw) text
  pub says : parts_of p.raw ≡ Ok p.parts
