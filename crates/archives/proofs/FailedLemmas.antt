-- An input may fail wherever an archive is read.
use Rattle.archives.proofs.PackingLemmas.{form_lawful}
use Rattle.archives.proofs.PlainLemmas.{some_of}
use Rattle.archives.proofs.Words.{ℕ, inl, inr, List, None, Some, Option, Err, IfSome, Fault, refl}
use Rattle.warc_core.specs.declared.fault.Cause.TheVariants.{Read}
use Rattle.archives.specs.Form.{Comes, IsPossibleFault}
use Rattle.archives.specs.Packing.{Packing, form_of}
use Rattle.archives.specs.Walking.{FailsAt}

abbrev pub failed_at : ℕ → Fault
failed_at offset = record { offset = offset; cause = Read }

pub may_fail : (packing : Packing) (offset : ℕ) (bytes : List ℕ)
    → IsPossibleFault (form_of packing) offset bytes (failed_at offset)
may_fail packing offset bytes = ((form_lawful packing).here offset, inr (inl refl))

comes_failed : (packing : Packing) (offset : ℕ) (before after : Option (List ℕ))
    → Comes (form_of packing) offset (Err (failed_at offset)) before after
comes_failed packing offset None after = tt
comes_failed packing offset (Some bytes) after = may_fail packing offset bytes

pub fails_here : (packing : Packing) (offset : ℕ) (before after : Option (List ℕ))
    → FailsAt (form_of packing) offset (failed_at offset) before after
fails_here packing offset before after = record {
  comes = comes_failed packing offset before after;
  follows = (form_lawful packing).here offset;
}

pub refuses_here : (packing : Packing) (offset : ℕ) (before : Option (List ℕ))
    → (form_of packing).Follows offset offset
    × IfSome before (λ bytes. IsPossibleFault (form_of packing) offset bytes (failed_at offset))
refuses_here packing offset before = ((form_lawful packing).here offset, some_of before (may_fail packing offset))
