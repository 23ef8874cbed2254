-- The record of a length at an offset.
use Rattle.index_core.proofs.Words.{◌≡◌, ℕ, List, [], ◌++◌, Option, None, Some, Result, Ok}
use Rattle.index_core.proofs.Words.{IfSome, arith, refl, HeadView, record_length, Reads}
use Rattle.index_core.proofs.Words.{record-whole, Appends-none, IndexFault, CopiesNextOf, Err, inr, Archive}
use Rattle.index_core.specs.declared.fault.IndexFault.TheVariants as faults
use Rattle.std.proofs.Common.{◌≢◌}
use Rattle.warc_core.specs.Next.{next_at}
use Rattle.index_core.specs.Copying.{WroteFront}
use Rattle.index_core.specs.FetchingAt.{CopiesRecordOf, PassesRecord}
use Rattle.index_core.proofs.FetchLemmas.{next_copied, record_head}
use Rattle.index_core.proofs.OneRecordTexts.{no_part}

in_front : (known : Option (List ℕ)) → IfSome known (λ bytes. (more : List ℕ) × (bytes ≡ [] ++ more))
in_front None = tt
in_front (Some bytes) = (bytes, refl)

nothing : (n : ℕ) (known w : Option (List ℕ)) → WroteFront n known w w
nothing n known w = record { front = []; most = grind arith; begins = in_front known; grown = Appends-none w }

-- a record of another length was passed over
pub passed_of : (h : HeadView) (len : ℕ) (r : Result ℕ IndexFault) (before after w : Option (List ℕ))
    → record_length h ≢ len → PassesRecord h.parts.block_length h.start r before after
    → CopiesRecordOf h len r before after w w
passed_of h len r before after w e p = grind (arith, nothing)

module _ (limit : ℕ) where
  pub next_copied_of : (o : ℕ) (h : HeadView) (len : ℕ) (r : Result ℕ IndexFault)
      (before mid after w u : Option (List ℕ)) → Reads (next_at limit o) (Ok (Some h)) before mid → h.start ≡ o
      → CopiesRecordOf h len r mid after w u → CopiesNextOf limit o len r before w u
  next_copied_of o h len (Ok m) before mid after w u n e c =
      let k = next_copied limit o h (Ok m) before mid after w u n e c.1 in grind (arith, record_head)
  next_copied_of o h len (Err faults.NoRecord) (Some z) (Some y) (Some x) w u n e c =
      inr (h, x, record-whole limit o (Some z) (Some y) (Some x) h n c.whole, c.other)
  next_copied_of o h len (Err (faults.Capture (Archive f))) before mid after w u n e c =
      next_copied limit o h (Err (faults.Capture (Archive f))) before mid after w u n e c
  next_copied_of o h len (Err faults.Write) before mid after w u n e c =
      next_copied limit o h (Err faults.Write) before mid after w u n e c.1
  next_copied_of o h len r before mid after w u n e c = grind arith

pub ruleset passed_rules = (passed_of, no_part)
