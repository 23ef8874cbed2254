-- The verdict on a record that begins the bytes of a plain archive.
use Rattle.archives.proofs.Words.{◌≡◌, ℕ, List, Option, Some, Ok, Err, IfSome}
use Rattle.archives.proofs.Words.{take, arith, drop-append_seam, Cause, HeadView}
use Rattle.archives.proofs.Words.{Reads, after_record, next-spelled}
use Rattle.warc_core.specs.HeadView.{block_at}
use Rattle.warc_core.specs.Next.{next_at}
use Rattle.warc_core.specs.declared.verdict.Verdict.{Verdict}
use Rattle.capture_core.specs.BlockDigest.{judge_record}
use Rattle.archives.specs.Walking.{verdict_on}

pub judged_record : (judge : List ℕ → Verdict) (n : ℕ) (z w : List ℕ) (v : Verdict) → judge_record judge n z ≡ Ok (v, w)
    → (after_record n z ≡ Ok (tt, w)) × (v ≡ judge (take n z))
unfolding judge_record
judged_record judge n z w v h = grind arith

pub judged_met : (judge : List ℕ → Verdict) (n : ℕ) (c : Cause) (before after : Option (List ℕ))
    → Reads (judge_record judge n) (Err c) before after → Reads (after_record n) (Err c) before after
unfolding judge_record
judged_met judge n c before after h = grind arith

pub judged_read : (judge : List ℕ → Verdict) (n : ℕ) (v : Verdict) (before after : Option (List ℕ))
    → Reads (judge_record judge n) (Ok v) before after → Reads (after_record n) (Ok tt) before after
unfolding judge_record
judged_read judge n v before after h = grind arith

-- the verdict on a record that begins the bytes
pub judged_verdict : (limit start : ℕ) (h : HeadView) (v : Verdict) (before mid after : Option (List ℕ))
    → Reads (next_at limit start) (Ok (Some h)) before mid
    → Reads (judge_record (verdict_on h) h.parts.block_length) (Ok v) mid after
    → IfSome before (λ bytes. v ≡ verdict_on h (block_at h bytes))
judged_verdict limit start h v (Some z) (Some y) (Some w) r j =
    let spelled = next-spelled limit start z y h r in
    grind (arith, drop-append_seam, judged_record)
judged_verdict limit start h v before mid after r j = grind arith
