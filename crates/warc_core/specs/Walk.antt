-- Records, one after another.
use Rattle.std.specs.Prelude.{◌≡◌, ℕ, ◌+◌, List, [], ◌∷◌, Option, None, Some, Result, Ok, Err}
use Rattle.warc_core.specs.declared.fault.Cause.{Cause}
use Rattle.warc_core.specs.Reading.{◌>>=◌}
use Rattle.warc_core.specs.Record.{after_record}
use Rattle.warc_core.specs.HeadView.{HeadView, record_length}
use Rattle.warc_core.specs.Next.{next_at}

-- a head, once what follows it was read to the end of its record
abbrev pub closed_at : Option HeadView × List ℕ → Result (Option HeadView × List ℕ) Cause
closed_at (None, rest) = Ok (None, rest)
closed_at (Some h, rest) = after_record h.parts.block_length rest >>= λ closed. Ok (Some h, closed.1)

-- the head that comes next, if one does, and the bytes after its record
unfoldable pub record_at : ℕ → ℕ → List ℕ → Result (Option HeadView × List ℕ) Cause
record_at limit start bytes = next_at limit start bytes >>= closed_at

-- These are the heads of whole records that stand one after another from this offset on, and the bytes
-- after them begin at `end`.
abbrev pub Walks : ℕ → ℕ → List ℕ → List HeadView → ℕ → List ℕ → Type 0
Walks limit start bytes [] end rest = (end ≡ start) × (rest ≡ bytes)
Walks limit start bytes (h ∷ hs) end rest = (later : List ℕ) × (record_at limit start bytes ≡ Ok (Some h, later))
    × Walks limit (start + record_length h) later hs end rest

-- the archive is these records and no more
pub record AreRecords (limit : ℕ) (archive : List ℕ) (heads : List HeadView) : Type 0 where
  pub end : ℕ
  pub walks : Walks limit 0 archive heads end []

-- the archive is these records, and then what is no record for this cause
pub record IsDamaged (limit : ℕ) (archive : List ℕ) (heads : List HeadView) (offset : ℕ) (cause : Cause) : Type 0 where
  pub rest : List ℕ
  pub walks : Walks limit 0 archive heads offset rest
  pub refused : record_at limit offset rest ≡ Err cause
