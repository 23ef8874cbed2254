-- An archive decides which record is at an offset, and what is written of it.
use Rattle.index_core.proofs.Words.{◌≡◌, ℕ, List, [], ◌++◌, ◌⊎◌, inl, inr, Option, Some, Result, Ok}
use Rattle.index_core.proofs.Words.{Err, length, drop, refl, ap, arith, Archive, IndexFault}
use Rattle.index_core.proofs.Words.{StandsIn, Fetches, CopiesNextOf, IsFailure, IsOfArchive}
use Rattle.std.proofs.Common.{IfOk}
use Rattle.warc_core.specs.Next.{next_at}
use Rattle.warc_core.specs.Walk.{record_at}
use Rattle.index_core.specs.FetchingAt.{BeginsRecord, BeginsOther}
use Rattle.index_core.specs.FetchingLaws.{WroteRecord}
use Rattle.index_core.specs.OneText.{HasFront, IsUnwritten, IsNotDamagedAt, FetchesOneText}
use Rattle.index_core.specs.OneText.{FetchesFront, FetchesAtOneText}
use Rattle.index_core.proofs.FormLemmas.{wrote}
use Rattle.index_core.proofs.OffsetLemmas.{one_stands}
use Rattle.index_core.proofs.OneTextLemmas.{grown, has_front, damage}
use Rattle.index_core.specs.declared.fault.IndexFault.TheVariants as faults

-- how long what stands at an offset is
abbrev length_of : Result (List ℕ) IndexFault → Result ℕ IndexFault
length_of (Ok text) = Ok (length text)
length_of (Err fault) = Err fault

-- a result is that of what stands there, and its text was written
abbrev Settled : (Result (List ℕ) IndexFault → Type 0) → List ℕ → Result ℕ IndexFault → Option (List ℕ) → Type 0
Settled Stands before result text = (there : Result (List ℕ) IndexFault) × Stands there × (result ≡ length_of there)
    × IfOk there (λ bytes. text ≡ Some (before ++ bytes))

-- where one thing stands, results are the same
settled_once : (Stands : Result (List ℕ) IndexFault → Type 0)
    → ((this that : Result (List ℕ) IndexFault) → Stands this → Stands that → this ≡ that)
    → (offset : ℕ) (before : List ℕ) (this that : Result ℕ IndexFault) (text other : Option (List ℕ))
    → Settled Stands before this text → Settled Stands before that other
    → IsUnwritten offset this (Some before) text → IsUnwritten offset that (Some before) other
    → (this ≡ that) × (IsNotDamagedAt offset this → text ≡ other)
settled_once Stands one offset before this that text other x y p q = grind (arith, one)

-- a call that failed has written a front of the record
failed_front : (before bytes : List ℕ) (that : Result ℕ IndexFault) (text other : Option (List ℕ)) → IsFailure that
    → text ≡ Some (before ++ bytes) → WroteRecord bytes that (Some before) other → HasFront before text other
failed_front before bytes that text other i e w = grind (arith, has_front)

module _ (limit offset : ℕ) (archive before : List ℕ) where
  settled : (result : Result ℕ IndexFault) (text : Option (List ℕ)) → IsOfArchive result
      → Fetches limit offset (Some archive) result (Some before) text
      → Settled (StandsIn limit archive offset) before result text
  settled (Ok n) text i (bytes, size, a, t) = (Ok bytes, t, ap Ok size, grown before bytes text a)
  settled (Err faults.NoRecord) text i s = (Err faults.NoRecord, s, refl, tt)
  settled (Err (faults.Capture (Archive f))) text i (l, (inl s, p)) = (Err (faults.Capture (Archive f)), s, refl, tt)
  settled (Err (faults.Capture (Archive f))) text i (l, (inr (n, a), p)) = absurd (i n)
  settled result text i s = grind arith

pub fetches_one_text : FetchesOneText
fetches_one_text limit offset archive before this that text other i j r s p q =
    settled_once (StandsIn limit archive offset) (one_stands limit offset archive) offset before this that text other
    (settled limit offset archive before this text i r) (settled limit offset archive before that other j s) p q

pub fetches_front : FetchesFront
fetches_front limit offset archive before n that text other i (bytes, size, a, (h, r, is)) s =
    failed_front before bytes that text other i (grown before bytes text a)
    (rw is (wrote limit archive offset h r that (Some before) other s))

-- ---- records of a length

-- what stands in these bytes
abbrev StandsAs : ℕ → ℕ → ℕ → List ℕ → Result (List ℕ) IndexFault → Type 0
StandsAs limit offset len bytes (Ok text) = BeginsRecord limit offset bytes len text
StandsAs limit offset len bytes (Err faults.NoRecord) = (bytes ≡ []) ⊎ BeginsOther limit offset bytes len
StandsAs limit offset len bytes (Err (faults.Capture (Archive f))) = (f.offset ≡ offset)
    × (record_at limit offset bytes ≡ Err f.cause)
StandsAs limit offset len bytes (Err other) = ⊥

module _ (limit offset len : ℕ) (bytes before : List ℕ) where
  -- where nothing is read, no record and no damage is
  nothing_or : (r : Result (List ℕ) IndexFault) → bytes ≡ [] → StandsAs limit offset len bytes r
      → r ≡ Err faults.NoRecord
  unfolding record_at next_at
  nothing_or r e s = grind arith

  one_stands_as : (this that : Result (List ℕ) IndexFault) → StandsAs limit offset len bytes this
      → StandsAs limit offset len bytes that → this ≡ that
  one_stands_as this that x y = grind (arith, nothing_or)

  settled_at : (result : Result ℕ IndexFault) (text : Option (List ℕ)) → IsOfArchive result
      → CopiesNextOf limit offset len result (Some bytes) (Some before) text
      → Settled (StandsAs limit offset len bytes) before result text
  settled_at (Ok n) text i (is, front, size, a, b) = (Ok front, b, ap Ok size, grown before front text a)
  settled_at (Err faults.NoRecord) text i s = (Err faults.NoRecord, s, refl, tt)
  settled_at (Err (faults.Capture (Archive f))) text i (o, (c, p)) =
      (Err (faults.Capture (Archive f)), (o, damage f.cause (record_at limit offset bytes) i c), refl, tt)
  settled_at result text i s = grind arith

pub fetches_at_one_text : FetchesAtOneText
fetches_at_one_text limit offset len archive before this that text other i j (inl x) (inl y) p q = grind arith
fetches_at_one_text limit offset len archive before this that text other i j (inr x) (inr y) p q =
    let bytes = drop offset archive in
    settled_once (StandsAs limit offset len bytes) (one_stands_as limit offset len bytes before) offset before this that
    text other (settled_at limit offset len bytes before this text i x.1)
    (settled_at limit offset len bytes before that other j y.1) p q
fetches_at_one_text limit offset len archive before this that text other i j (inl x) (inr y) p q = grind arith
fetches_at_one_text limit offset len archive before this that text other i j (inr x) (inl y) p q = grind arith
