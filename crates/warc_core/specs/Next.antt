-- What comes next in an archive.
use Rattle.std.specs.Prelude.{ℕ, ◌+◌, ◌-◌, ◌^◌, nat_lt, List, [], ◌∷◌, Option, None, Some, Result, Ok, Err}
use Rattle.std.specs.Prelude.{if◌then◌else◌}
use Rattle.warc_core.specs.declared.fault.Cause.{Cause}
use Rattle.warc_core.specs.declared.fault.Cause.TheVariants as causes
use Rattle.warc_core.specs.Reading.{◌>>=◌}
use Rattle.warc_core.specs.HeadText.{head_text}
use Rattle.warc_core.specs.Head.{parts_or_cause}
use Rattle.warc_core.specs.HeadView.{HeadView, record_length}

-- a head whose record ends by the greatest offset
abbrev pub within_limit : HeadView → List ℕ → Result (HeadView × List ℕ) Cause
within_limit h rest = if nat_lt (2 ^ 63 - 1) (h.start + record_length h) then Err causes.TooFar else Ok (h, rest)

-- the head of the record that starts here, and the bytes after it
unfoldable pub head_at : ℕ → ℕ → List ℕ → Result (HeadView × List ℕ) Cause
head_at limit start bytes = do
  text ← head_text limit bytes
  parts ← parts_or_cause text.0
  within_limit (record { start = start; raw = text.0; parts = parts }) text.1

-- the same, or the end
unfoldable pub next_at : ℕ → ℕ → List ℕ → Result (Option HeadView × List ℕ) Cause
next_at limit start [] = Ok (None, [])
next_at limit start (b ∷ bytes) = do
  head ← head_at limit start (b ∷ bytes)
  Ok (Some head.0, head.1)
