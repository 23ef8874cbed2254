-- Both forms of `get` do the same where whole records fill the archive up to the offset.
use Rattle.index_core.proofs.Words.{◌≡◌, ◌∙◌, ℕ, ◌+◌, ◌-◌, ◌^◌, ◌≤◌, List, [], ◌∷◌, inl, inr}
use Rattle.index_core.proofs.Words.{Option, None, Some, Result, Ok, Err, length, take, drop, refl}
use Rattle.index_core.proofs.Words.{sym, ap, length-append, arith, Cause, Fault, HeadView}
use Rattle.index_core.proofs.Words.{record_length, Walks, read-spelled, none_at_end, Archive}
use Rattle.index_core.proofs.Words.{IndexFault, IsRecordOf, StandsIn, Fetches, CopiesNextOf}
use Rattle.warc_core.specs.Reading.{IsPossibleCause}
use Rattle.warc_core.specs.Walk.{record_at}
use Rattle.warc_core.proofs.ReadingLemmas.{answered, front_of}
use Rattle.index_core.specs.Fetching.{AreRecordsTo, IsTextAt, StopsAt, most_written_at}
use Rattle.index_core.specs.FetchingLaws.{IsReached, IsFromOffset, LengthAgrees, OffsetAgrees}
use Rattle.index_core.specs.FetchingLaws.{WroteRecord, CapturesAreFetched}
use Rattle.index_core.proofs.ArchiveWalks.{from_offset}
use Rattle.index_core.proofs.FetchedLemmas.{fetched}
use Rattle.index_core.proofs.OffsetLemmas.{one_stands}
use Rattle.index_core.specs.declared.fault.IndexFault.TheVariants as faults

-- a walk ends by the greatest offset
walk_within : (limit start : ℕ) (bytes : List ℕ) (heads : List HeadView) (end : ℕ) (rest : List ℕ)
    → Walks limit start bytes heads end rest → start ≤ 2 ^ 63 - 1 → end ≤ 2 ^ 63 - 1
walk_within limit start bytes [] end rest w l = rw w.0 l
walk_within limit start bytes (h ∷ heads) end rest w l =
    grind (arith, walk_within limit (start + record_length h) w.0 heads end rest, read-spelled)

-- a record's text is as long as its head says
text_length : (limit start : ℕ) (bytes rest : List ℕ) (h : HeadView) → record_at limit start bytes ≡ Ok (Some h, rest)
    → length (take (record_length h) bytes) ≡ record_length h
text_length limit start bytes rest h r = grind (arith, read-spelled, length-append, front_of)

-- what stands at the offset of bytes, by what is read of them
abbrev read_as : ℕ → List ℕ → Result (Option HeadView × List ℕ) Cause → Result (List ℕ) IndexFault
read_as offset bytes (Ok (Some h, rest)) = Ok (take (record_length h) bytes)
read_as offset bytes (Ok (None, rest)) = Err faults.NoRecord
read_as offset bytes (Err c) = Err (faults.Capture (Archive (record { offset = offset; cause = c })))

module _ (limit : ℕ) (archive : List ℕ) (offset : ℕ) where
  -- a record of the archive is read at its offset
  record_read : (h : HeadView) (r : IsRecordOf limit archive offset h)
      → record_at limit offset (drop offset archive) ≡ Ok (Some h, r.rest)
  record_read h r = rw (from_offset limit archive r.before offset r.bytes r.walks) r.whole

  module _ (a : AreRecordsTo limit archive offset) where
    walked : Walks limit 0 archive a.0 offset (drop offset archive)
    walked = rw (← from_offset limit archive a.0 offset a.1 a.2) at a.2

    is_record : (h : HeadView) (rest : List ℕ) → record_at limit offset (drop offset archive) ≡ Ok (Some h, rest)
        → IsRecordOf limit archive offset h
    is_record h rest r =
        record { before = a.0; bytes = drop offset archive; rest = rest; walks = walked; whole = r }

    nothing_there : drop offset archive ≡ [] → StandsIn limit archive offset (Err faults.NoRecord)
    nothing_there e = inr (a.0, record { end = offset; walks = rw e at walked }, omega arith)

    stands_there : (r : Result (Option HeadView × List ℕ) Cause) → record_at limit offset (drop offset archive) ≡ r
        → StandsIn limit archive offset (read_as offset (drop offset archive) r)
    stands_there (Ok (Some h, rest)) e = (h, is_record h rest e, refl)
    stands_there (Ok (None, rest)) e = nothing_there (none_at_end limit offset (drop offset archive) rest e)
    stands_there (Err c) e = (a.0, record { rest = drop offset archive; walks = walked; refused = e }, omega arith)

    -- where no record begins and no record is cut, the archive ends
    none_there : (r : Result (Option HeadView × List ℕ) Cause) → record_at limit offset (drop offset archive) ≡ r
        → StandsIn limit archive offset (Err faults.NoRecord) → drop offset archive ≡ []
    none_there r e n =
        let same = one_stands limit offset archive (Err faults.NoRecord) _ n (stands_there r e) in
        grind (arith, none_at_end)

    -- the cause of a fault at the offset is that of the bytes there
    fault_there : (f : Fault) (r : Result (Option HeadView × List ℕ) Cause)
        → record_at limit offset (drop offset archive) ≡ r → offset ≤ f.offset → StopsAt limit archive offset f
        → (f.offset ≤ offset) → IsPossibleCause f.cause r
    fault_there f r e i (inl d) l =
        let same = one_stands limit offset archive (Err (faults.Capture (Archive f))) _ d (stands_there r e) in
        grind arith
    fault_there f r e i (inr n) l = grind arith

    module _ (len : ℕ) (sized : (h : HeadView) → IsRecordOf limit archive offset h → record_length h ≡ len) where
      from_length : (result : Result ℕ IndexFault) (before after : Option (List ℕ))
          → CopiesNextOf limit offset len result (Some (drop offset archive)) before after
          → Fetches limit offset (Some archive) result before after
      from_length (Ok n) before after (same, text, size, grown, (h, rest, r, is_len, is)) =
          (text, size, grown, (h, is_record h rest r, rw is_len is))
      from_length (Err faults.NoRecord) before after (inl e) = nothing_there e
      from_length (Err faults.NoRecord) before after (inr (h, rest, r, other)) =
          absurd (other (sized h (is_record h rest r)))
      from_length (Err (faults.Capture (Archive f))) before after (at, (met, p)) =
          let w = walked in (omega arith, (grind arith, p))
      from_length (Err faults.Write) before after c = (a, c)
      from_length result before after c = grind arith

      from_offset_on : (result : Result ℕ IndexFault) (before after : Option (List ℕ)) → IsFromOffset offset result
          → Fetches limit offset (Some archive) result before after
          → CopiesNextOf limit offset len result (Some (drop offset archive)) before after
      from_offset_on (Ok n) before after i (text, size, grown, (h, r, is)) =
          let long = text_length limit offset (drop offset archive) r.rest h (record_read h r) in
          let fits = sized h r in
          (grind arith, text, size, grown, (h, r.rest, record_read h r, fits, rw (← fits) is))
      from_offset_on (Err faults.NoRecord) before after i s = inl (none_there _ refl s)
      from_offset_on (Err (faults.Capture (Archive f))) before after i (l, (s, p)) =
          (omega arith, (fault_there f _ refl i s l, p))
      from_offset_on (Err faults.Write) before after i (records, p) = p
      from_offset_on result before after i s = grind arith

pub length_agrees : LengthAgrees
length_agrees limit offset len archive result before after reached (inl (far, e)) = grind (arith, walk_within)
length_agrees limit offset len archive result before after reached (inr c) =
    from_length limit archive offset reached.records len reached.sized result before after c.1

pub offset_agrees : OffsetAgrees
offset_agrees limit offset len archive result before after reached i s =
    let a = reached.records in
    let l = walk_within limit 0 archive a.0 offset a.1 a.2 (omega arith) in
    inr (l, from_offset_on limit archive offset a len reached.sized result before after i s)

-- ---- the record of a capture

module _ (limit : ℕ) (archive : List ℕ) (offset : ℕ) (h : HeadView) (r : IsRecordOf limit archive offset h) where
  abbrev text_of : List ℕ
  text_of = take (record_length h) (drop offset archive)

  is_text : IsTextAt limit archive offset text_of
  is_text = (h, r, refl)

  -- at most this text is written
  most : most_written_at limit offset (drop offset archive) ≡ text_of
  most = rw (record_read limit archive offset h r)

  stays : (s : Result (List ℕ) IndexFault) → StandsIn limit archive offset s → s ≡ Ok text_of
  stays s t = one_stands limit offset archive s (Ok text_of) t is_text

  pub wrote : (result : Result ℕ IndexFault) (before after : Option (List ℕ))
      → Fetches limit offset (Some archive) result before after → WroteRecord text_of result before after
  wrote (Ok n) before after (text, size, grown, t) = let e = stays (Ok text) t in grind arith
  wrote (Err faults.NoRecord) before after s = let e = stays (Err faults.NoRecord) s in absurd cc
  wrote (Err (faults.Capture (Archive f))) before after (l, (inl d, p)) =
      let e = stays (Err (faults.Capture (Archive f))) d in absurd cc
  wrote (Err (faults.Capture (Archive f))) before after (l, (inr (n, a), p)) = (n, rw most at p)
  wrote (Err faults.Write) before after (a, p) = rw most at p
  wrote result before after s = grind arith

  one_length : (k : HeadView) → IsRecordOf limit archive offset k → record_length k ≡ record_length h
  one_length k q =
      let same = answered (Some k) (Some h) q.rest r.rest
      (sym (record_read limit archive offset k q) ∙ record_read limit archive offset h r) in
      let head : k ≡ h = cc in ap record_length head

  reached : IsReached limit archive offset (record_length h)
  reached = record {
    records = (r.before, r.bytes, r.walks);
    sized = one_length;
  }

pub captures_are_fetched : CapturesAreFetched
captures_are_fetched types limits limit name archive captures e accepted i =
    let f = fetched types limits limit name archive e captures accepted i in (
      take (record_length f.0) (drop e.offset archive),
      is_text limit archive e.offset f.0 f.1,
      text_length limit e.offset (drop e.offset archive) f.1.rest f.0 (record_read limit archive e.offset f.0 f.1)
          ∙ f.2,
      λ result before after s. wrote limit archive e.offset f.0 f.1 result before after (elim s [
        | inl a ↦ a
        | inr b ↦ length_agrees limit e.offset e.length archive result before after
            (rw f.2 at (reached limit archive e.offset f.0 f.1)) b
      ]),
    )
