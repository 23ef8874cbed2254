use Rattle.warc_core.proofs.Words.{◌≡◌, ℕ, ◌≤◌, ◌-◌, true, false, length, take, prepend_known}
use Rattle.warc_core.proofs.Words.{has_version, is_closed}
use Rattle.warc_core.proofs.ReadingLemmas.{GoesOn}
use Rattle.warc_core.specs.HeadText.{head_text}
use Rattle.warc_core.proofs.HeadLemmas.{going}
use Rattle.warc_core.proofs.head_text.read_head_text.Given as goal

abbrev pub invariant-loop-buffer : goal.invariant-loop-buffer
invariant-loop-buffer g l = record {
  short : length l.head.items ≤ l.limit;
  unclosed : is_closed l.head.items ≡ false;
  open_so_far : (n : ℕ) → n ≤ length l.head.items → is_closed (take n l.head.items) ≡ false;
  agree : has_version l.head.items ≡ true;
  same : GoesOn (head_text l.limit) (going l.limit l.head.items)
      (prepend_known l.fn.buffer (g.I.Input.remaining l.fn.input))
      (prepend_known l.buffer (g.I.Input.remaining l.input));
  failures : g.I.Input.failures l.input ≡ g.I.Input.failures l.fn.input;
}

abbrev pub decreases-loop-buffer : goal.decreases-loop-buffer
decreases-loop-buffer g l = l.limit - length l.head.items
