-- Plain archives: what comes next in them is the record that begins the bytes.
use Rattle.archives.proofs.Words.{◌≡◌, ℕ, ◌+◌, inl, inr, List, [], ◌∷◌, None, Some, Option}
use Rattle.archives.proofs.Words.{Result, Ok, Err, IfSome, Cause, Fault, HeadView, Reads, Walks, ap, arith}
use Rattle.archives.proofs.Words.{HEAD_LIMIT, after_record, record-stopped, record-unclosed}
use Rattle.archives.proofs.Words.{length-append, map, none_at_end, read-spelled, record_length, refl, sym, ◌∙◌}
use Rattle.warc_core.specs.HeadView.{RecordBeginsAt}
use Rattle.warc_core.specs.Reading.{IsPossibleCause}
use Rattle.warc_core.specs.Next.{next_at}
use Rattle.warc_core.specs.Walk.{record_at}
use Rattle.capture_core.specs.Capture.{plain_place}
use Rattle.archives.specs.Form.{Stored, Comes, ComesRecord, IsLawful, IsPossibleFault, StandsFrom, WalksOver}
use Rattle.archives.specs.Plain.{no_memory}
use Rattle.archives.specs.Walking.{ComesAt, FailsAt}
use Rattle.archives.specs.Form.{end_of, plain, plain_next, plain_placed, plain_record}

-- the heads of records
abbrev pub heads_of : List Stored → List HeadView
heads_of records = map (λ r. r.head) records

pub some_of : (before : Option (List ℕ)) {P : List ℕ → Type 0} → ((bytes : List ℕ) → P bytes) → IfSome before P
some_of None h = tt
some_of (Some bytes) h = h bytes

module _ (limit : ℕ) where
  -- what was read is what comes next
  pub plain_reads : (offset : ℕ) (bytes rest : List ℕ) (h : HeadView) → record_at limit offset bytes ≡ Ok (Some h, rest)
      → (plain limit).next offset bytes ≡ Ok (Some (plain_record h bytes), rest)
  unfolding plain
  plain_reads offset bytes rest h e = ap (plain_next offset bytes) e

  pub plain_ends : (offset : ℕ) (bytes rest : List ℕ) → record_at limit offset bytes ≡ Ok (None, rest)
      → (plain limit).next offset bytes ≡ Ok (None, rest)
  unfolding plain
  plain_ends offset bytes rest e = ap (plain_next offset bytes) e

  pub plain_fails : (offset : ℕ) (bytes : List ℕ) (f : Fault) → record_at limit offset bytes ≡ Err f.cause
      → f.offset ≡ offset → (plain limit).next offset bytes ≡ Err f
  unfolding plain
  plain_fails offset bytes f e at = grind arith

  -- and the other way round
  from_read : (offset : ℕ) (bytes rest : List ℕ) (r : Stored) (read : Result (Option HeadView × List ℕ) Cause)
      → plain_next offset bytes read ≡ Ok (Some r, rest)
      → (h : HeadView) × (read ≡ Ok (Some h, rest)) × (r ≡ plain_record h bytes)
  from_read offset bytes rest r (Ok (Some h, later)) e = (h, grind arith, grind arith)
  from_read offset bytes rest r (Ok (None, later)) e = absurd (grind arith)
  from_read offset bytes rest r (Err c) e = absurd (grind arith)

  pub plain_read : (offset : ℕ) (bytes rest : List ℕ) (r : Stored) → (plain limit).next offset bytes ≡ Ok (Some r, rest)
      → (h : HeadView) × (record_at limit offset bytes ≡ Ok (Some h, rest)) × (r ≡ plain_record h bytes)
  unfolding plain
  plain_read offset bytes rest r e = from_read offset bytes rest r (record_at limit offset bytes) e

  from_end : (offset : ℕ) (bytes rest : List ℕ) (read : Result (Option HeadView × List ℕ) Cause)
      → plain_next offset bytes read ≡ Ok (None, rest) → read ≡ Ok (None, rest)
  from_end offset bytes rest (Ok (Some h, later)) e = absurd (grind arith)
  from_end offset bytes rest (Ok (None, later)) e = grind arith
  from_end offset bytes rest (Err c) e = absurd (grind arith)

  pub plain_end : (offset : ℕ) (bytes rest : List ℕ) → (plain limit).next offset bytes ≡ Ok (None, rest)
      → record_at limit offset bytes ≡ Ok (None, rest)
  unfolding plain
  plain_end offset bytes rest e = from_end offset bytes rest (record_at limit offset bytes) e

  from_fault : (offset : ℕ) (bytes : List ℕ) (f : Fault) (read : Result (Option HeadView × List ℕ) Cause)
      → plain_next offset bytes read ≡ Err f → (read ≡ Err f.cause) × (f.offset ≡ offset)
  from_fault offset bytes f (Ok (Some h, later)) e = absurd (grind arith)
  from_fault offset bytes f (Ok (None, later)) e = absurd (grind arith)
  from_fault offset bytes f (Err c) e = grind arith

  pub plain_fault : (offset : ℕ) (bytes : List ℕ) (f : Fault) → (plain limit).next offset bytes ≡ Err f
      → (record_at limit offset bytes ≡ Err f.cause) × (f.offset ≡ offset)
  unfolding plain
  plain_fault offset bytes f e = from_fault offset bytes f (record_at limit offset bytes) e

  pub plain_follows : (from to : ℕ) → from ≡ to → (plain limit).Follows from to
  unfolding plain
  plain_follows from to e = e

  pub plain_at : (from to : ℕ) → (plain limit).Follows from to → from ≡ to
  unfolding plain
  plain_at from to e = e

  plain_stand : (h : HeadView) (place : _) → place ≡ plain_place h → (plain limit).MayStand h place
  unfolding plain
  plain_stand h place e = e

  nothing_left : (offset : ℕ) (rest : List ℕ) → record_at limit offset [] ≡ Ok (None, rest) → rest ≡ []
  unfolding record_at next_at
  nothing_left offset rest e = grind arith

  ended_there : (offset : ℕ) (bytes rest : List ℕ) → record_at limit offset bytes ≡ Ok (None, rest) → rest ≡ []
  ended_there offset bytes rest e =
      nothing_left offset rest (rw (none_at_end limit offset bytes rest e) at e)

  -- plain archives keep the laws
  pub plain_lawful : IsLawful (plain limit)
  plain_lawful = record {
    here = λ offset. plain_follows offset offset refl;
    further = λ from mid to a b. plain_follows from to (plain_at from mid a ∙ plain_at mid to b);
    onward = λ from to a. let e = plain_at from to a in omega arith;
    found = λ offset bytes rest r e.
        let p = plain_read offset bytes rest r e in
        let s = read-spelled limit offset bytes rest p.0 p.1 in
        plain_follows offset r.place.offset (grind arith);
    stands = λ offset bytes rest r e.
        let p = plain_read offset bytes rest r e in
        plain_stand r.head r.place (grind arith);
    filled = λ offset bytes rest r e.
        let p = plain_read offset bytes rest r e in
        grind arith;
    fewer = λ offset bytes rest r e.
        let p = plain_read offset bytes rest r e in
        let s = read-spelled limit offset bytes rest p.0 p.1 in
        grind (arith, length-append);
    ended = λ offset bytes rest e. ended_there offset bytes rest (plain_end offset bytes rest e);
    failed = λ offset bytes f e. plain_follows offset f.offset (sym (plain_fault offset bytes f e).1);
  }

  -- ---- what a reader of plain archives answers

  pub plain_comes : (offset : ℕ) (h : HeadView) (P : Stored → Type 0) (before after : Option (List ℕ))
      → Reads (record_at limit offset) (Ok (Some h)) before after → IfSome before (λ bytes. P (plain_record h bytes))
      → ComesRecord (plain limit) offset (plain_placed h) P before after
  plain_comes offset h P None after r p = tt
  plain_comes offset h P (Some bytes) None r p = absurd r
  plain_comes offset h P (Some bytes) (Some rest) r p =
      (plain_record h bytes, refl, plain_reads offset bytes rest h r, p)

  pub plain_comes_end : (offset : ℕ) (before after : Option (List ℕ))
      → Reads (record_at limit offset) (Ok None) before after → Comes (plain limit) offset (Ok None) before after
  plain_comes_end offset None after r = tt
  plain_comes_end offset (Some bytes) None r = r
  plain_comes_end offset (Some bytes) (Some rest) r = plain_ends offset bytes rest r

  pub plain_possible : (offset : ℕ) (bytes : List ℕ) (f : Fault) → f.offset ≡ offset
      → IsPossibleCause f.cause (record_at limit offset bytes) → IsPossibleFault (plain limit) offset bytes f
  plain_possible offset bytes f at (inl memory) = (plain_follows offset f.offset (sym at), inl memory)
  plain_possible offset bytes f at (inr (inl read)) = (plain_follows offset f.offset (sym at), inr (inl read))
  plain_possible offset bytes f at (inr (inr e)) =
      (plain_follows offset f.offset (sym at), inr (inr (plain_fails offset bytes f e at)))

  pub plain_comes_fault : (offset : ℕ) (f : Fault) (before after : Option (List ℕ)) → f.offset ≡ offset
      → Reads (record_at limit offset) (Err f.cause) before after → Comes (plain limit) offset (Err f) before after
  plain_comes_fault offset f None after at r = tt
  plain_comes_fault offset f (Some bytes) after at r = plain_possible offset bytes f at r

  pub plain_fails_at : (offset : ℕ) (f : Fault) (before after : Option (List ℕ)) → f.offset ≡ offset
      → Reads (record_at limit offset) (Err f.cause) before after → FailsAt (plain limit) offset f before after
  plain_fails_at offset f before after at r = record {
    comes = plain_comes_fault offset f before after at r;
    follows = plain_follows offset f.offset (sym at);
  }

  pub plain_stands : (offset : ℕ) (h : HeadView) → RecordBeginsAt offset h
      → StandsFrom (plain limit) offset (plain_placed h)
  plain_stands offset h b = record {
    follows = plain_follows offset h.start (sym b.start_is);
    stands = plain_stand h (plain_place h) refl;
    filled = omega arith;
    fits = grind arith;
  }

  -- no head was read
  pub plain_stopped : (offset : ℕ) (f : Fault) (before after : Option (List ℕ)) → f.offset ≡ offset
      → Reads (next_at limit offset) (Err f.cause) before after → FailsAt (plain limit) offset f before after
  plain_stopped offset f before after at r =
      plain_fails_at offset f before after at (record-stopped limit offset before after after f.cause r)

  -- a head was read, and no record with it
  pub plain_unclosed : (offset : ℕ) (f : Fault) (h : HeadView) (before mid after : Option (List ℕ)) → f.offset ≡ offset
      → Reads (next_at limit offset) (Ok (Some h)) before mid
      → Reads (after_record h.parts.block_length) (Err f.cause) mid after
      → FailsAt (plain limit) offset f before after
  plain_unclosed offset f h before mid after at r s =
      plain_fails_at offset f before after at (record-unclosed limit offset before mid after h f.cause r s)

  pub plain_found : (offset : ℕ) (h : HeadView) {P : Stored → Type 0} (before after : Option (List ℕ))
      → RecordBeginsAt offset h → Reads (record_at limit offset) (Ok (Some h)) before after
      → IfSome before (λ bytes. P (plain_record h bytes))
      → ComesAt (plain limit) offset (plain_placed h) P before after
  plain_found offset h {P} before after b r p = record {
    comes = plain_comes offset h P before after r p;
    stands = plain_stands offset h b;
  }

  -- ---- walks

  -- a walk over records is one over their heads
  pub plain_walk : (start : ℕ) (bytes : List ℕ) (records : List Stored) (end : ℕ) (rest : List ℕ)
      → WalksOver (plain limit) start bytes records end rest → Walks limit start bytes (heads_of records) end rest
  plain_walk start bytes [] end rest w = w
  plain_walk start bytes (r ∷ records) end rest w =
      let p = plain_read start bytes w.0 r w.1 in
      let s = read-spelled limit start bytes w.0 p.0 p.1 in
      let head : r.head ≡ p.0 = ap (λ x. x.head) p.2 in
      let at : end_of r.place ≡ start + record_length r.head = grind arith in
      (w.0, rw head p.1, plain_walk (start + record_length r.head) w.0 records end rest (rw (← at) w.2))

-- there was no memory for a reader
pub memory_fails : (f : Fault) → f ≡ no_memory → (before after : Option (List ℕ))
    → FailsAt (plain HEAD_LIMIT) f.offset f before after
memory_fails f e before after = plain_fails_at HEAD_LIMIT f.offset f before after refl (memory_reads f e before after)
  where
    memory_reads : (f : Fault) → f ≡ no_memory → (before after : Option (List ℕ))
        → Reads (record_at HEAD_LIMIT f.offset) (Err f.cause) before after
    memory_reads f e None after = tt
    memory_reads f e (Some bytes) after = inl (ap (λ f. f.cause) e)
