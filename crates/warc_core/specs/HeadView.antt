-- What contracts see of a head.
use Rattle.std.specs.Prelude.{◌≡◌, ℕ, ◌+◌, ◌-◌, ◌^◌, ◌≤◌, List, length, take, drop}
use Rattle.warc_head.specs.Parts.{HeadParts, HeadRead}

pub record HeadView : Type 0 where
  -- where the record begins
  pub start : ℕ
  -- the head as stored
  pub raw : List ℕ
  pub parts : HeadParts

-- a head whose text was read, at this offset
abbrev pub head_view : ℕ → HeadRead → HeadView
head_view start head = record { start = start; raw = head.raw; parts = head.parts }

-- how long a record with this head is
abbrev pub record_length : HeadView → ℕ
record_length h = length h.raw + h.parts.block_length + 4

-- the block of the record that begins these bytes
abbrev pub block_at : HeadView → List ℕ → List ℕ
block_at h bytes = take h.parts.block_length (drop (length h.raw) bytes)

-- the record ends by the greatest offset
abbrev pub IsWithinOffsets : HeadView → Type 0
IsWithinOffsets h = h.start + record_length h ≤ 2 ^ 63 - 1

-- the head of a record that begins here, and ends by the greatest offset
pub record RecordBeginsAt (start : ℕ) (h : HeadView) : Type 0 where
  pub start_is : h.start ≡ start
  pub fits : start + record_length h ≤ 2 ^ 63 - 1
