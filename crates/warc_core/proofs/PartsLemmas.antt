-- The faults of a head as causes.
use Rattle.warc_core.proofs.Words.{arith, ◌≡◌, ℕ, List, Ok, HeadParts}
use Rattle.warc_head.specs.declared.fault.HeadFault.{HeadFault}
use Rattle.warc_head.specs.Answers.{IsFound}
use Rattle.warc_core.specs.Head.{parts_or_cause, cause_of}
use Rattle.warc_core.specs.Answers.{IsFoundPurely}
use Rattle.warc_head.specs.Parts as heads

pub purely-found : (f : HeadFault) (raw : List ℕ) → IsFound f (heads.parts_of raw)
    → IsFoundPurely (cause_of f) (parts_or_cause raw)
unfolding parts_or_cause
purely-found f raw h = grind arith

pub read-ok : (raw : List ℕ) (parts : HeadParts) → heads.parts_of raw ≡ Ok parts → parts_or_cause raw ≡ Ok parts
unfolding parts_or_cause
read-ok raw parts h = grind arith
