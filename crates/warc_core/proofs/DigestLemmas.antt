-- A digest of a block, piece by piece.
use Rattle.warc_core.proofs.Words.{◌≡◌, ℕ, ◌+◌, ◌-◌, ◌<◌, ◌≤◌, List, [], ◌++◌, Ok, Err, length}
use Rattle.warc_core.proofs.Words.{take, drop, arith, append_assoc, append-nil}
use Rattle.warc_core.proofs.Words.{length-take-le, drop_all, take-append-add, Open}
use Rattle.sha1.specs.declared.Sha1.{Sha1}
use Rattle.sha1.specs.Sha1.{Holds, sha1}
use Rattle.warc_core.proofs.ReadingLemmas.{GoesOn}
use Rattle.warc_core.specs.ReaderView.{ReaderState, HasLeft, IfOpen, ahead}
use Rattle.warc_core.proofs.OpenLemmas.{left_in, StandsIn}
use Rattle.warc_core.specs.Calls.{GivesBlock, ReadsTo}
use Rattle.warc_core.specs.declared.fault.Fault.{Fault}
use Rattle.warc_core.proofs.RecordLemmas.{after_block-part, after_block-zero}
use Rattle.warc_core.specs.RestDigest.{digest_of_rest}

-- a front that goes past a text takes all of it
pub take_past : (n : ℕ) (xs ys : List ℕ) → length xs ≤ n → take n (xs ++ ys) ≡ xs ++ take (n - length xs) ys
take_past n xs ys h =
    let e : n ≡ length xs + (n - length xs) = omega arith in
    grind (arith, take-append-add)

-- what a hasher took of an open record's block, behind what it began with
pub record Digesting (start : List ℕ) (old now : ReaderState) (hasher : Sha1) : Type 0 where
  pub taken : List ℕ
  pub holds : Holds hasher taken
  pub opened : HasLeft 0 old.reader.phase
  pub stands : StandsIn old.reader now.reader
  pub same : GoesOn (digest_of_rest (left_in old.reader.phase) start) (digest_of_rest (left_in now.reader.phase) taken)
      (ahead old) (ahead now)
  pub failures : now.failures ≡ old.failures

pub Digesting-start : (start : List ℕ) (old : ReaderState) (hasher : Sha1) → HasLeft 0 old.reader.phase
    → Holds hasher start → Digesting start old old hasher
Digesting-start start old hasher opened holds = grind arith

drop_piece : (n : ℕ) (piece : List ℕ) → length piece ≡ n → drop n piece ≡ []
drop_piece n piece l = drop_all n piece (omega arith)

digest-part : (n m : ℕ) (taken piece more : List ℕ) → length piece ≡ n → n ≤ m → digest_of_rest m taken (piece ++ more)
    ≡ digest_of_rest (m - n) (taken ++ piece) more
unfolding digest_of_rest
digest-part n m taken piece more l h =
    let k : n ≤ length piece = omega arith in
    let e = after_block-part m n piece more h k in
    grind (arith, take_past, drop_piece, append_assoc)

digest-none : (n : ℕ) (taken w : List ℕ) → n ≡ 0 → digest_of_rest n taken w ≡ Ok (sha1 taken, w)
unfolding digest_of_rest
digest-none n taken w e = grind (arith, after_block-zero, append-nil)

module _ (start : List ℕ) (old now next : ReaderState) (hasher : Sha1) (d : Digesting start old now hasher) (piece : List ℕ)
  where
    pub Digesting-more : (hasher' : Sha1) (n : ℕ)
        → IfOpen now.reader.phase (λ left len. GivesBlock left len now next (Ok n) piece)
        → ((m : List ℕ) → Holds hasher m → Holds hasher' (m ++ take n piece)) → Digesting start old next hasher'
    Digesting-more hasher' n gave more = grind (arith, digest-part, length-take-le)

    pub Digesting-fault : (fault : Fault)
        → IfOpen now.reader.phase (λ left len. GivesBlock left len now next (Err fault) piece)
        → IfOpen old.reader.phase (λ left len. ReadsTo (digest_of_rest left start) old.reader.offset (Open 0 len) old next
        (Err fault))
    unfolding digest_of_rest
    Digesting-fault fault gave = grind arith

    pub Digesting-end : (digest : List ℕ) → 0 < length piece
        → IfOpen now.reader.phase (λ left len. GivesBlock left len now next (Ok 0) piece)
        → ((m : List ℕ) → Holds hasher m → digest ≡ sha1 m)
        → IfOpen old.reader.phase (λ left len. ReadsTo (digest_of_rest left start) old.reader.offset (Open 0 len) old next
        (Ok digest))
    Digesting-end digest some gave finished = grind (arith, digest-none)

pub ruleset digest_rules = (Digesting-start, Digesting-more, Digesting-fault, Digesting-end, length-take-le)
