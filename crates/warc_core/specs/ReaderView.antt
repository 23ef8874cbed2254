-- What contracts see of a reader.
use Rattle.std.specs.Prelude.{◌≡◌, ℕ, ◌+◌, ◌-◌, ◌^◌, ◌≤◌, ⊤, List, Option}
use Rattle.std.specs.Io.KnownBytes.{prepend_known}
use Rattle.warc_core.specs.declared.fault.Fault.{Fault}
use Rattle.warc_core.specs.declared.phase.Phase.{Phase}
use Rattle.warc_core.specs.declared.phase.Phase.TheVariants.{Between, Open, Failed}
use Rattle.warc_core.specs.HeadView.{HeadView, record_length}

pub record ReaderView : Type 0 where
  -- where the open record begins, or where the next one would
  pub offset : ℕ
  pub phase : Phase
  -- what was taken from the input and not given out
  pub held : List ℕ

-- a reader and its input, as a call finds or leaves them
pub record ReaderState : Type 0 where
  pub reader : ReaderView
  -- what the input has left, where its bytes are known
  pub remaining : Option (List ℕ)
  -- how many calls of the input have failed
  pub failures : ℕ

abbrev pub state_of : ReaderView → Option (List ℕ) → ℕ → ReaderState
state_of reader remaining failures = record { reader = reader; remaining = remaining; failures = failures }

-- the known bytes that no call has given yet
abbrev pub ahead : ReaderState → Option (List ℕ)
ahead s = prepend_known s.reader.held s.remaining

-- a record ends by the greatest offset
abbrev pub IsWithinLimit : ℕ → Phase → Type 0
IsWithinLimit offset Between = offset ≤ 2 ^ 63 - 1
IsWithinLimit offset (Open left length) = (left + 4 ≤ length) × (offset + length ≤ 2 ^ 63 - 1)
IsWithinLimit offset (Failed c) = offset ≤ 2 ^ 63 - 1

-- the reader stands here, whatever it holds
pub record StandsAt (r : ReaderView) (offset : ℕ) (phase : Phase) : Type 0 where
  pub offset_is : r.offset ≡ offset
  pub phase_is : r.phase ≡ phase

-- the head is the reader's last, and no byte of its block was read
pub record IsUnread (r : ReaderView) (h : HeadView) : Type 0 where
  pub offset_is : r.offset ≡ h.start
  pub phase_is : r.phase ≡ Open h.parts.block_length (record_length h)

-- if a record is open, this holds of how much of its block is left, and of its length
abbrev pub IfOpen : Phase → (ℕ → ℕ → Type 0) → Type 0
IfOpen (Open left length) P = P left length
IfOpen phase P = ⊤

-- a record is open, and n bytes of its block are left, or more
abbrev pub HasLeft : ℕ → Phase → Type 0
HasLeft n (Open left length) = n ≤ left
HasLeft n phase = ⊥

-- the fault is that of the record at the offset, and the reader has failed by it
pub record FailedBy (r : ReaderView) (offset : ℕ) (f : Fault) : Type 0 where
  pub at : f.offset ≡ offset
  pub stands : StandsAt r offset (Failed f.cause)
