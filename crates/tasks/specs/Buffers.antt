-- What contracts see of outputs with a buffer.
use Rattle.std.specs.Prelude.{◌≡◌, ◌⊎◌, ℕ, List, Option, None, if◌then◌else◌}
use Rattle.std.specs.Io.Buffered.{writer_contents, writer_inner}
use Rattle.tasks.specs.declared.buffered.Buffered.{Buffered}

-- the bytes of the writer and its buffer; one that hands on replies tells none
abbrev pub buffer_written : {W : Type 0} → (W → Option (List ℕ)) → Buffered W → Option (List ℕ)
buffer_written contents b = if b.hands_on_replies then None else writer_contents contents b.writer

-- the bytes that have left the buffer
abbrev pub buffer_flushed : {W : Type 0} → (W → Option (List ℕ)) → Buffered W → Option (List ℕ)
buffer_flushed contents b = if b.hands_on_replies then None else contents (writer_inner b.writer)

abbrev pub buffer_failures : {W : Type 0} → Buffered W → ℕ
buffer_failures b = b.failures

-- the bytes that an output tells are the same, or it tells none any more
abbrev pub KeepsOrTellsNothing : Option (List ℕ) → Option (List ℕ) → Type 0
KeepsOrTellsNothing old new = (new ≡ old) ⊎ (new ≡ None)
