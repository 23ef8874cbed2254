-- The walk to an offset, and what was copied there.
use Rattle.index_core.proofs.Words.{err_from_is_err_and, ◌≡◌, ◌∙◌, ℕ, ◌+◌, ◌-◌, ◌≤◌, List, [], ◌∷◌}
use Rattle.index_core.proofs.Words.{◌++◌, ◌⊎◌, inl, inr, Option, None, Some, Result, Ok, Err, IfSome}
use Rattle.index_core.proofs.Words.{length, take, refl, subst, arith, Appends, Cause, Fault}
use Rattle.index_core.proofs.Words.{AppendsPrefix, HeadView, record_length, Reads, Walks}
use Rattle.index_core.proofs.Words.{next-spelled, Walks-more, none_at_end, record-stopped}
use Rattle.index_core.proofs.Words.{record-unclosed, record-whole, Archive, IndexFault, IsInRecord}
use Rattle.index_core.proofs.Words.{Fetches, drop, ◌^◌}
use Rattle.warc_core.specs.Next.{next_at}
use Rattle.warc_core.specs.Walk.{record_at}
use Rattle.warc_core.proofs.ReadingLemmas.{front_of}
use Rattle.warc_core.proofs.WalkLemmas.{record-end}
use Rattle.warc_core.proofs.DigestLemmas.{take_past}
use Rattle.index_core.specs.Fetching.{IsBehindRecords, StopsAt, most_written, most_written_at}
use Rattle.warc_core.specs.declared.fault.Cause.TheVariants.{Memory}
use Rattle.archives.specs.Plain.{no_memory}
use Rattle.index_core.specs.FetchingAt.{FetchesAt}
use Rattle.index_core.specs.Copying.{CopiesRecord, CopiesNext, WalkedTo}
use Rattle.devices.proofs.WritingLemmas.{wrote_nothing}
use Rattle.index_core.proofs.ArchiveWalks.{from_offset}
use Rattle.index_core.specs.declared.fault.IndexFault.TheVariants as faults

-- ---- the walk

module _ (limit : ℕ) where
  pub WalkedTo-more : (o : ℕ) (left now after : Option (List ℕ)) (h : HeadView) → WalkedTo limit o left now
      → Reads (record_at limit o) (Ok (Some h)) now after → WalkedTo limit (o + record_length h) left after
  WalkedTo-more o (Some archive) (Some z) (Some y) h s r = (s.0 ++ h ∷ [], Walks-more limit 0 archive s.0 o z h y s.1 r)
  WalkedTo-more o left now after h s r = grind arith

  -- the archive ended before the offset, or there
  pub ends_before : (o : ℕ) (left now after : Option (List ℕ)) (offset : ℕ) → WalkedTo limit o left now
      → Reads (record_at limit o) (Ok None) now after → o ≤ offset
      → IfSome left (λ archive. IsInRecord limit archive offset ⊎ IsBehindRecords limit archive offset)
  ends_before o (Some archive) (Some z) (Some y) offset s r l = inr
      (s.0, record { end = o; walks = subst (Walks limit 0 archive s.0 o) (none_at_end limit o z y r) s.1 }, l)
  ends_before o left now after offset s r l = grind arith

  -- what comes next before the offset couldn't be read
  pub stops_before : (o : ℕ) (f : Fault) (left now after : Option (List ℕ)) (offset : ℕ) → WalkedTo limit o left now
      → Reads (record_at limit o) (Err f.cause) now after → f.offset ≡ o → o ≤ offset
      → (f.offset ≤ offset) × IfSome left (λ archive. StopsAt limit archive offset f)
  stops_before o f None now after offset s r e l = (omega arith, tt)
  stops_before o f (Some archive) None after offset s r e l = absurd s
  stops_before o f (Some archive) (Some z) after offset s (inl memory) e l =
      (omega arith, inr (inl memory, (s.0, z, rw e s.1)))
  stops_before o f (Some archive) (Some z) after offset s (inr (inl read)) e l =
      (omega arith, inr (inr read, (s.0, z, rw e s.1)))
  stops_before o f (Some archive) (Some z) after offset s (inr (inr refused)) e l = (
    omega arith,
    inl (s.0, record { rest = z; walks = rw e s.1; refused = rw e refused }, omega arith),
  )

  -- ---- what comes next

  -- the head that was read is that of the record which begins these bytes
  pub record_head : (o : ℕ) (h k : HeadView) (bytes y z : List ℕ) → next_at limit o bytes ≡ Ok (Some h, y)
      → record_at limit o bytes ≡ Ok (Some k, z) → h ≡ k
  unfolding record_at
  record_head o h k bytes y z n r = grind arith

  -- what was written is in front of what may be written
  goes_on : (o : ℕ) (h : HeadView) (bytes y front more : List ℕ) (r : Result (Option HeadView × List ℕ) Cause)
      → next_at limit o bytes ≡ Ok (Some h, y) → bytes ≡ front ++ more → length front ≤ record_length h
      → record_at limit o bytes ≡ r → (tail : List ℕ) × (most_written r bytes ≡ front ++ tail)
  goes_on o h bytes y front more (Ok (Some k, z)) n e l r =
      let same = record_head o h k bytes y z n r in (
        take (record_length h - length front) more,
        grind (arith, take_past),
      )
  goes_on o h bytes y front more r n e l f = (more, grind arith)

  front_written : (o : ℕ) (h : HeadView) (bytes y front more : List ℕ) (w u : Option (List ℕ)) → next_at limit o bytes
      ≡ Ok (Some h, y) → bytes ≡ front ++ more → length front ≤ record_length h → Appends w u front
      → AppendsPrefix w u (most_written_at limit o bytes)
  front_written o h bytes y front more w u n e l a = let t = goes_on o h bytes y front more (record_at limit o bytes) n
      e l refl in grind arith

  -- how the copying of the record that comes next ended
  pub next_copied : (o : ℕ) (h : HeadView) (r : Result ℕ IndexFault) (before mid after w u : Option (List ℕ))
      → Reads (next_at limit o) (Ok (Some h)) before mid → h.start ≡ o → CopiesRecord h r mid after w u
      → CopiesNext limit o r before w u
  next_copied o h (Err (faults.Capture (Archive f))) (Some z) (Some y) after w u n e c =
      let met = record-unclosed limit o (Some z) (Some y) after h f.cause n c.ends.1 in
      grind (arith, front_written, next-spelled)
  next_copied o h (Ok l) (Some z) (Some y) (Some x) w u n e c =
      let b = (next-spelled limit o z y h n).0 ∙ c.wrote.begins.1 in
      let whole = record-whole limit o (Some z) (Some y) (Some x) h n c.ends.2 in
      (c.wrote.front, c.ends.0, c.wrote.grown, (h, x, whole, grind (arith, front_of)))
  next_copied o h r before mid after w u n e c = grind (arith, front_written, next-spelled)

  -- no record came next
  pub next_none : (o : ℕ) (before after : Option (List ℕ)) → Reads (next_at limit o) (Ok None) before after
      → IfSome before (λ bytes. bytes ≡ [])
  next_none o before after n = grind (arith, none_at_end, record-end)

  -- the head of the record couldn't be read
  pub next_stopped : (o : ℕ) (f : Fault) (before after w : Option (List ℕ))
      → Reads (next_at limit o) (Err f.cause) before after → f.offset ≡ o
      → CopiesNext limit o (Err (faults.Capture (Archive f))) before w w
  next_stopped o f None after w n e = (e, tt)
  next_stopped o f (Some bytes) after w n e = (
    e,
    (record-stopped limit o (Some bytes) after after f.cause n, wrote_nothing w (most_written_at limit o bytes)),
  )

  -- ---- the whole call

  pub fetched : (o : ℕ) (r : Result ℕ IndexFault) (left known w u : Option (List ℕ)) → WalkedTo limit o left known
      → CopiesNext limit o r known w u → Fetches limit o left r w u
  fetched o (Err faults.NoRecord) (Some archive) (Some z) w u s c = inr
      (s.0, record { end = o; walks = subst (Walks limit 0 archive s.0 o) c s.1 }, omega arith)
  fetched o r left known w u s c = grind (arith, from_offset)

  -- ---- without memory for a reader

  pub unread_stops : (o : ℕ) (f : Fault) (left w : Option (List ℕ)) → f ≡ no_memory
      → Fetches limit o left (Err (faults.Capture (Archive f))) w w
  unread_stops o f None w e = rw e (omega arith, tt)
  unread_stops o f (Some archive) w e = rw e (
    omega arith,
    (inr (inl refl, ([], archive, (refl, refl))), wrote_nothing w (most_written_at limit o (drop o archive))),
  )

  pub unread_stops_at : (o len : ℕ) (f : Fault) (left w : Option (List ℕ)) → f.offset ≡ o → f.cause ≡ Memory
      → o ≤ 2 ^ 63 - 1 → FetchesAt limit o len left (Err (faults.Capture (Archive f))) w w
  unread_stops_at o len f None w at e l = inr (l, (at, tt))
  unread_stops_at o len f (Some archive) w at e l =
      inr (l, (at, (inl e, wrote_nothing w (most_written_at limit o (drop o archive)))))

pub ruleset next_rules = (err_from_is_err_and, next_none, next_stopped)

pub ruleset fetch_rules = (err_from_is_err_and, wrote_nothing)
