-- Two walks over one text.
use Rattle.warc_core.proofs.Words.{arith, ◌≡◌, ℕ, ◌+◌, List, [], ◌∷◌, ◌++◌, Option, None, Some}
use Rattle.warc_core.proofs.Words.{Result, Ok, Err, ◌⊎◌, append-nil, Cause, Reads, ◌>>=◌, HeadView}
use Rattle.warc_core.proofs.Words.{record_length, closed_at, Walks}
use Rattle.warc_core.specs.Record.{after_record}
use Rattle.warc_core.specs.Next.{next_at}
use Rattle.warc_core.specs.Walk.{record_at}
use Rattle.warc_core.proofs.NextLemmas.{as_next}

-- nothing follows the end
at_the_end : (limit start : ℕ) (h : HeadView) (later : List ℕ) → record_at limit start [] ≡ Ok (Some h, later) → ⊥
unfolding record_at next_at
at_the_end limit start h later e = grind arith

-- no cause is found at the end
no_fault : (limit start : ℕ) (rest : List ℕ) (c : Cause) → rest ≡ [] → record_at limit start rest ≡ Err c → ⊥
unfolding record_at next_at
no_fault limit start rest c n e = grind arith

-- the walk to gs at p, with t left, is that to hs at o, with r left, and more
abbrev pub GoesOnFrom : ℕ → List HeadView → List HeadView → ℕ → ℕ → List ℕ → List ℕ → Type 0
GoesOnFrom limit hs gs o p r t = (more : List HeadView) × (gs ≡ hs ++ more) × Walks limit o r more p t

-- of two walks from one place, one goes on where the other stopped
pub two-walks : (limit start : ℕ) (bytes : List ℕ) (hs gs : List HeadView) (o p : ℕ) (r t : List ℕ)
    → Walks limit start bytes hs o r → Walks limit start bytes gs p t
    → GoesOnFrom limit hs gs o p r t ⊎ GoesOnFrom limit gs hs p o t r
two-walks limit start bytes (h ∷ hs) (g ∷ gs) o p r t v w =
    grind (arith, two-walks limit (start + record_length h) v.0 hs gs o p r t)
two-walks limit start bytes hs gs o p r t v w = grind arith

-- no walk goes on from the end of the archive, nor from its damage
walk-ends : (limit p : ℕ) (t : List ℕ) (more : List HeadView) (o : ℕ) (r : List ℕ)
    → (t ≡ []) ⊎ ((c : Cause) × (record_at limit p t ≡ Err c)) → Walks limit p t more o r
    → (more ≡ []) × (o ≡ p) × (r ≡ t)
walk-ends limit p t [] o r e w = grind arith
walk-ends limit p t (h ∷ more) o r e w = absurd (grind (arith, at_the_end))

pub one_list : (limit start : ℕ) (bytes : List ℕ) (hs gs : List HeadView) (o p : ℕ) → Walks limit start bytes hs o []
    → Walks limit start bytes gs p [] → hs ≡ gs
one_list limit start bytes hs gs o p v w = grind (arith, two-walks, walk-ends, append-nil)

pub not_both : (limit start : ℕ) (bytes : List ℕ) (hs gs : List HeadView) (o p : ℕ) (c : Cause) (rest : List ℕ)
    → Walks limit start bytes hs o [] → Walks limit start bytes gs p rest → record_at limit p rest ≡ Err c → ⊥
not_both limit start bytes hs gs o p c rest v w e = grind (arith, two-walks, walk-ends, no_fault)

-- a walk to the end of the archive or to its damage goes on where any other stopped
pub walk-extends : (limit start : ℕ) (bytes : List ℕ) (hs gs : List HeadView) (o p : ℕ) (r t : List ℕ)
    → Walks limit start bytes hs o r → Walks limit start bytes gs p t → (t ≡ [])
    ⊎ ((c : Cause) × (record_at limit p t ≡ Err c)) → GoesOnFrom limit hs gs o p r t
walk-extends limit start bytes hs gs o p r t v w e =
    let s = two-walks limit start bytes hs gs o p r t v w in
    grind (arith, walk-ends, append-nil)

-- two walks to damage are one
pub one_fault : (limit start : ℕ) (bytes : List ℕ) (hs gs : List HeadView) (o p : ℕ) (c d : Cause) (r s : List ℕ)
    → Walks limit start bytes hs o r → Walks limit start bytes gs p s → record_at limit o r ≡ Err c
    → record_at limit p s ≡ Err d → (hs ≡ gs) × (o ≡ p) × (c ≡ d)
one_fault limit start bytes hs gs o p c d r s v w e f =
    grind (arith, two-walks limit start bytes hs gs o p r s v w, walk-ends limit p s, walk-ends limit o r, append-nil)

-- one record further
pub Walks-more : (limit start : ℕ) (bytes : List ℕ) (hs : List HeadView) (o : ℕ) (r : List ℕ) (h : HeadView)
    (l : List ℕ) → Walks limit start bytes hs o r → record_at limit o r ≡ Ok (Some h, l)
    → Walks limit start bytes (hs ++ h ∷ []) (o + record_length h) l
Walks-more limit start bytes (g ∷ hs) o r h l w e =
    grind (arith, Walks-more limit (start + record_length g) w.0 hs o r h l)
Walks-more limit start bytes [] o r h l w e = grind arith

module _ (limit start : ℕ) (before mid after : Option (List ℕ)) where
  pub record-stopped : (c : Cause) → Reads (next_at limit start) (Err c) before after
      → Reads (record_at limit start) (Err c) before after
  unfolding record_at
  record-stopped c r = grind arith

  pub record-end : Reads (next_at limit start) (Ok None) before after
      → Reads (record_at limit start) (Ok None) before after
  unfolding record_at
  record-end r = grind arith

  pub record-unclosed : (h : HeadView) (c : Cause) → Reads (next_at limit start) (Ok (Some h)) before mid
      → Reads (after_record h.parts.block_length) (Err c) mid after → Reads (record_at limit start) (Err c) before after
  unfolding record_at
  record-unclosed h c r s = grind arith

  pub record-whole : (h : HeadView) → Reads (next_at limit start) (Ok (Some h)) before mid
      → Reads (after_record h.parts.block_length) (Ok tt) mid after → Reads (record_at limit start) (Ok (Some h)) before after
  unfolding record_at
  record-whole h r s = grind arith

some_read : (x : Result (HeadView × List ℕ) Cause) (r : List ℕ)
    → ◌≡◌ {A = Result (Option HeadView × List ℕ) Cause} ((x >>= as_next) >>= closed_at) (Ok (None, r)) → ⊥
some_read x r e = grind arith

-- no record is read only at the end
pub none_at_end : (limit start : ℕ) (z r : List ℕ) → record_at limit start z ≡ Ok (None, r) → z ≡ []
unfolding record_at next_at
none_at_end limit start z r e = grind arith

pub ruleset one_reading_rules = (one_list, one_fault, not_both)
