-- The head that comes next, step by step.
use Rattle.warc_core.proofs.Words.{◌≡◌, ℕ, ◌+◌, ◌-◌, ◌<◌, ◌≤◌, List, [], Option, None, Some, Result}
use Rattle.warc_core.proofs.Words.{Ok, Err, length, arith, refl, length-append, prepend_known}
use Rattle.warc_core.proofs.Words.{Cause, HeadParts, Reads, ◌>>=◌, HeadView}
use Rattle.warc_core.proofs.ReadingLemmas.{nil_of, GoesOn}
use Rattle.std.proofs.Common.{◌^◌}
use Rattle.warc_core.specs.Answers.{IsFoundPurely}
use Rattle.warc_core.specs.HeadText.{head_text}
use Rattle.warc_core.specs.Head.{parts_or_cause}
use Rattle.warc_core.specs.Next.{head_at, next_at, within_limit}
use Rattle.warc_core.specs.declared.fault.Cause.TheVariants as causes

-- the head that these parts and this text make
abbrev pub head_of : ℕ → List ℕ → HeadParts → HeadView
head_of start raw parts = record { start = start; raw = raw; parts = parts }

-- what is read of a head once its text is there
abbrev pub of_text : ℕ → List ℕ × List ℕ → Result (HeadView × List ℕ) Cause
of_text start text = parts_or_cause text.0 >>= λ parts. within_limit (head_of start text.0 parts) text.1

module _ (limit start : ℕ) (raw : List ℕ) (before now : Option (List ℕ))
    (got : Reads (head_text limit) (Ok raw) before now) where
  text-there : GoesOn (head_at limit start) (λ z. of_text start (raw, z)) before now
  unfolding head_at
  text-there = grind arith

  pub head-unread : (c : Cause) → IsFoundPurely c (parts_or_cause raw) → Reads (head_at limit start) (Err c) before now
  head-unread c h = grind (arith, text-there)

  pub head-far : (p : HeadParts) → parts_or_cause raw ≡ Ok p → 2 ^ 63 - 1 < start + (length raw + p.block_length + 4)
      → Reads (head_at limit start) (Err causes.TooFar) before now
  head-far p e l = grind (arith, text-there)

  pub head-read : (p : HeadParts) → parts_or_cause raw ≡ Ok p → start + (length raw + p.block_length + 4) ≤ 2 ^ 63 - 1
      → Reads (head_at limit start) (Ok (head_of start raw p)) before now
  head-read p e l = grind (arith, text-there)

-- a head whose text isn't there
pub text-unread : (limit start : ℕ) (c : Cause) (before after : Option (List ℕ))
    → Reads (head_text limit) (Err c) before after → Reads (head_at limit start) (Err c) before after
unfolding head_at
text-unread limit start c before after r = grind arith

-- where some bytes are held, some are known
longer : (held : List ℕ) (left : Option (List ℕ)) (w : List ℕ) → 0 < length held → prepend_known held left ≡ Some w
    → 0 < length w
longer held left w some k = grind (arith, length-append)

-- a head as what comes next
abbrev pub as_next : HeadView × List ℕ → Result (Option HeadView × List ℕ) Cause
as_next head = Ok (Some head.0, head.1)

next-nonempty : (limit start : ℕ) (z : List ℕ) → 0 < length z → next_at limit start z
    ≡ (head_at limit start z >>= as_next)
unfolding next_at
next-nonempty limit start z h = grind arith

pub next-empty : (limit start : ℕ) (z : List ℕ) → z ≡ [] → next_at limit start z ≡ Ok (None, z)
unfolding next_at
next-empty limit start z e = rw e refl

module _ (limit start : ℕ) (before left : Option (List ℕ)) (held : List ℕ)
    (same : GoesOn (next_at limit start) (next_at limit start) before (prepend_known held left)) where
  pub next-more : 0 < length held → GoesOn (next_at limit start) (λ z. head_at limit start z >>= as_next) before
      (prepend_known held left)
  next-more some = grind (arith, next-nonempty, longer)

  pub next-stopped : (c : Cause) (after : Option (List ℕ)) → 0 < length held
      → Reads (head_at limit start) (Err c) (prepend_known held left) after
      → Reads (next_at limit start) (Err c) before after
  next-stopped c after some r = grind (arith, next-more)

  pub next-head : (h : HeadView) (after : Option (List ℕ)) → 0 < length held
      → Reads (head_at limit start) (Ok h) (prepend_known held left) after
      → Reads (next_at limit start) (Ok (Some h)) before after
  next-head h after some r = grind (arith, next-more)

pub ruleset read_next_rules = (nil_of, next-empty)
