-- The verdict on a block, from how its record was read.
use Rattle.warc_core.proofs.Words.{arith, ◌≡◌, ℕ, List, [], ◌++◌, Option, None, Some, Ok}
use Rattle.warc_core.proofs.Words.{Err, Result, refl, take, Cause, Reads}
use Rattle.sha1.specs.Sha1.{sha1}
use Rattle.warc_core.specs.Reading.{IsPossibleCause}
use Rattle.warc_core.specs.Record.{after_record}
use Rattle.warc_core.proofs.RecordLemmas.{after_block-zero}
use Rattle.warc_core.specs.declared.verdict.Verdict.{Verdict}
use Rattle.warc_core.specs.RestDigest.{digest_of_rest}
use Rattle.warc_core.specs.BlockDigest.{judge_record}

-- what a cause is found of may give way to what it ends too
possible-too : {A B : Type 0} (c : Cause) (x : Result A Cause) (y : Result B Cause) → (x ≡ Err c → y ≡ Err c)
    → IsPossibleCause c x → IsPossibleCause c y
possible-too c x y f h = grind arith

-- what is found of the record is found of its block's verdict
pub judge-found : (judge : List ℕ → Verdict) (c : Cause) (left : ℕ) (z : List ℕ) → IsPossibleCause c (after_record left z)
    → IsPossibleCause c (judge_record judge left z)
unfolding judge_record
judge-found judge c left z h = possible-too c (after_record left z) _ (λ e. rw e refl) h

pub judge-read : (judge : List ℕ → Verdict) (left : ℕ) (z rest : List ℕ) → after_record left z ≡ Ok (tt, rest)
    → judge_record judge left z ≡ Ok (judge (take left z), rest)
unfolding judge_record
judge-read judge left z rest h = grind arith

pub judge-stopped : (judge : List ℕ → Verdict) (c : Cause) (left : ℕ) (before after : Option (List ℕ))
    → Reads (after_record left) (Err c) before after → Reads (judge_record judge left) (Err c) before after
judge-stopped judge c left None after h = tt
judge-stopped judge c left (Some z) after h = judge-found judge c left z h

-- after a digest of a block's rest, the record's end is what follows
pub digest-then : (left : ℕ) (start z w digest : List ℕ) → digest_of_rest left start z ≡ Ok (digest, w)
    → (after_record left z ≡ after_record 0 w) × (digest ≡ sha1 (start ++ take left z))
unfolding digest_of_rest after_record
digest-then left start z w digest h = grind (arith, after_block-zero)

-- what a digest of a block's rest meets, its record has
pub digest-found : (c : Cause) (left : ℕ) (start z : List ℕ) → digest_of_rest left start z ≡ Err c → after_record left z
    ≡ Err c
unfolding digest_of_rest after_record
digest-found c left start z h = grind arith

-- a fault of the digest's is one of the record's
pub digest-stopped : (c : Cause) (left : ℕ) (start : List ℕ) (before after : Option (List ℕ))
    → Reads (digest_of_rest left start) (Err c) before after → Reads (after_record left) (Err c) before after
digest-stopped c left start None after h = tt
digest-stopped c left start (Some z) after h = possible-too c _ (after_record left z) (digest-found c left start z) h

pub compare-unclosed : (judge : List ℕ → Verdict) (c : Cause) (left : ℕ) (digest : List ℕ)
    (before mid after : Option (List ℕ)) → Reads (digest_of_rest left []) (Ok digest) before mid
    → Reads (after_record 0) (Err c) mid after → Reads (judge_record judge left) (Err c) before after
compare-unclosed judge c left digest None mid after h k = tt
compare-unclosed judge c left digest (Some z) None after h k = absurd h
compare-unclosed judge c left digest (Some z) (Some w) after h k = judge-found judge c left z
    (rw (digest-then left [] z w digest h).0 k)

pub ruleset judge_rules = (judge-read, judge-stopped)
