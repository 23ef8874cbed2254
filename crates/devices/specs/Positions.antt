-- A stream whose bytes and position are known: what is left of it, and how it moves.
use Rattle.std.specs.Prelude.{ℕ, ◌+◌, ◌-◌, List, length, drop, Option, None, Some}

-- the position in bytes from the start, and all the bytes
pub record Stream : Type 0 where
  pub position : ℕ
  pub bytes : List ℕ

-- the bytes from the position on, where the stream is known
abbrev pub left_of : Option Stream → Option (List ℕ)
left_of None = None
left_of (Some s) = Some (drop s.position s.bytes)

-- a stream at this position
abbrev pub moved_to : ℕ → Option Stream → Option Stream
moved_to at None = None
moved_to at (Some s) = Some (record { position = at; bytes = s.bytes })

-- a stream so many bytes further on
abbrev pub moved_on : ℕ → Option Stream → Option Stream
moved_on count None = None
moved_on count (Some s) = Some (record { position = s.position + count; bytes = s.bytes })

-- the number of bytes that are left, or else what is said of them, where the stream isn't known
abbrev pub size_left : Option Stream → ℕ → ℕ
size_left None said = said
size_left (Some s) said = length s.bytes - s.position
