-- The copying of a record, piece by piece.
use Rattle.index_core.proofs.Words.{◌≡◌, ◌∙◌, ℕ, ◌+◌, ◌-◌, ◌≤◌, List, []}
use Rattle.index_core.proofs.Words.{◌++◌, Option, Result, Ok, Err, IfSome, length, take, sym}
use Rattle.index_core.proofs.Words.{append_assoc, length-append, arith, Appends}
use Rattle.index_core.proofs.Words.{prepend_known, Cause, Fault, AppendsPrefix, HeadView}
use Rattle.index_core.proofs.Words.{record_length, Reads, after_record, Appends-none, Appends-join}
use Rattle.index_core.proofs.Words.{Archive, IndexFault}
use Rattle.std.proofs.lemmas.List.{length-take-le}
use Rattle.std.specs.Io.KnownBytes.{Consumes}
use Rattle.warc_core.specs.ReaderView.{ReaderState, IfOpen, ahead}
use Rattle.warc_core.specs.Calls.{GivesBlock, Finishes}
use Rattle.warc_core.specs.Record.{closing}
use Rattle.warc_core.proofs.ReadingLemmas.{GoesOn-reads, nil_of}
use Rattle.warc_core.proofs.SpelledLemmas.{block-there}
use Rattle.warc_core.proofs.OpenLemmas.{behind-front, found-of-record, left_in}
use Rattle.warc_core.proofs.FillLemmas.{Consumes-none, Consumes-join}
use Rattle.index_core.specs.Copying.{WroteFront, CopiesRecord, CopiedBut}
use Rattle.index_core.specs.declared.fault.IndexFault.TheVariants as faults

-- ---- fronts of what is known

-- what was taken stands in front
front_there : (known known' : Option (List ℕ)) (a : List ℕ) → Consumes known known' a
    → IfSome known (λ bytes. (more : List ℕ) × (bytes ≡ a ++ more))
front_there known known' a c = grind arith

-- a head stands in front of what follows it
consumes_head : (raw : List ℕ) (known : Option (List ℕ)) → Consumes (prepend_known raw known) known raw
consumes_head raw known = grind arith

-- what was taken was written, and a prefix of what comes next
wrote_before : (n : ℕ) (a piece : List ℕ) (known mid later w v u : Option (List ℕ)) → Consumes known mid a
    → Appends w v a → Consumes mid later piece → AppendsPrefix v u piece → length a + length piece ≤ n
    → WroteFront n known w u
wrote_before n a piece known mid later w v u c k d p l = grind (arith, length-append, append_assoc, Appends-join)

module _ (h : HeadView) (before : Option (List ℕ)) where
  -- ---- the head and the block

  -- the output failed in the head
  pub head_cut : (fault : IndexFault) (after w u : Option (List ℕ)) → fault ≡ faults.Write → AppendsPrefix w u h.raw
      → CopiesRecord h (Err fault) before after w u
  head_cut fault after w u e p = rw e (record {
    wrote = wrote_before (record_length h) [] h.raw _ _ before w w u (Consumes-none _) (Appends-none w)
        (consumes_head h.raw before) p (omega arith);
    ends = tt;
  })

  -- a front of the block was copied, of which rest bytes are left
  module _ (rest : ℕ) (now : ReaderState) (w v : Option (List ℕ)) (d : CopiedBut rest h before now w v) where
    -- what was written stands in front of what is left
    taken : Consumes (prepend_known h.raw before) (ahead now) (h.raw ++ d.front)
    taken = Consumes-join _ before _ h.raw d.front (consumes_head h.raw before) d.given

    -- what is read behind the front of the block is read behind the head
    behind_head : (r : Result (Unit {0}) Cause) (after : Option (List ℕ)) → Reads (after_record rest) r (ahead now) after
        → Reads (after_record h.parts.block_length) r before after
    behind_head r after s =
        let whole = d.whole in
        let left : h.parts.block_length - length d.front ≡ rest = omega (arith, whole) in
        GoesOn-reads (after_record h.parts.block_length) (after_record (h.parts.block_length - length d.front)) r before
        (ahead now) after (behind-front _ d.front before _ (omega (arith, whole)) d.given) (rw left s)

    pub copied_more : (n : ℕ) (piece : List ℕ) (next : ReaderState) (u : Option (List ℕ))
        → IfOpen now.reader.phase (λ left len. GivesBlock left len now next (Ok n) piece) → Appends v u (take n piece)
        → CopiedBut (left_in next.reader.phase) h before next w u
    copied_more n piece next u gave a =
        let g = rw d.stands.phase_is at gave in
        let long = length-take-le n piece g.bound.1 in
        let whole = d.whole in
        record {
          front = d.front ++ take n piece;
          whole = grind (arith, length-append);
          given = Consumes-join _ _ _ d.front (take n piece) d.given g.bytes;
          stands = grind arith;
          grown = rw (← append_assoc) (Appends-join w v u (h.raw ++ d.front) (take n piece) d.grown a);
        }

    -- the output failed in what comes next
    copied_cut : (fault : IndexFault) (piece : List ℕ) (later after u : Option (List ℕ)) → fault ≡ faults.Write
        → Consumes (ahead now) later piece → length piece ≤ rest + 4 → AppendsPrefix v u piece
        → CopiesRecord h (Err fault) before after w u
    copied_cut fault piece later after u e c l p =
        let whole = d.whole in
        rw e (record {
          wrote = wrote_before (record_length h) (h.raw ++ d.front) piece _ _ later w v u taken d.grown c p
              (omega (arith, whole, l, length-append h.raw d.front));
          ends = tt;
        })

    -- what comes next couldn't be read
    copied_stop : (f : Fault) (after : Option (List ℕ)) → f.offset ≡ now.reader.offset
        → Reads (after_record rest) (Err f.cause) (ahead now) after
        → CopiesRecord h (Err (faults.Capture (Archive f))) before after w v
    copied_stop f after at s = grind (arith, taken, front_there, length-append, behind_head)

    -- the output failed in a piece of the block
    pub piece_cut : (fault : IndexFault) (n : ℕ) (piece : List ℕ) (next : ReaderState) (after u : Option (List ℕ))
        → fault ≡ faults.Write → IfOpen now.reader.phase (λ left len. GivesBlock left len now next (Ok n) piece)
        → AppendsPrefix v u (take n piece) → CopiesRecord h (Err fault) before after w u
    piece_cut fault n piece next after u e gave p =
        let g = rw d.stands.phase_is at gave in
        let long = length-take-le n piece g.bound.1 in
        copied_cut fault (take n piece) _ after u e g.bytes (omega (arith, g.bound.0, long)) p

    -- the block couldn't be read on
    pub piece_stop : (f : Fault) (piece : List ℕ) (next : ReaderState) (after : Option (List ℕ))
        → IfOpen now.reader.phase (λ left len. GivesBlock left len now next (Err f) piece)
        → CopiesRecord h (Err (faults.Capture (Archive f))) before after w v
    piece_stop f piece next after gave =
        let g = rw d.stands.phase_is at gave in
        copied_stop f after g.state.at (found-of-record f.cause rest (ahead now) after g.bytes)

    -- the record couldn't be finished
    pub finish_stop : (f : Fault) (next : ReaderState)
        → IfOpen now.reader.phase (λ left len. Finishes left len now next (Err f))
        → CopiesRecord h (Err (faults.Capture (Archive f))) before (ahead next) w v
    finish_stop f next finished =
        let s = rw d.stands.phase_is at finished in copied_stop f (ahead next) s.state.at s.bytes

-- ---- the whole record

module _ (h : HeadView) (before : Option (List ℕ)) (now : ReaderState) (w v : Option (List ℕ))
    (d : CopiedBut 0 h before now w v) (new : ReaderState) (u : Option (List ℕ)) (n : ℕ)
    (finished : IfOpen now.reader.phase (λ left len. Finishes left len now new (Ok n))) where
  closing_taken : Consumes (ahead now) (ahead new) closing
  closing_taken =
      let s = rw d.stands.phase_is at finished in
      let read = s.bytes in
      grind (arith, block-there, nil_of)

  -- the output failed in the closing
  pub closing_cut : (fault : IndexFault) → fault ≡ faults.Write → AppendsPrefix v u closing
      → CopiesRecord h (Err fault) before (ahead new) w u
  closing_cut fault e p = copied_cut h before 0 now w v d fault closing _ _ u e closing_taken (omega arith) p

  pub record_copied : Appends v u closing → CopiesRecord h (Ok n) before (ahead new) w u
  record_copied p =
      let front = h.raw ++ d.front in
      let whole = d.whole in
      let s = rw d.stands.phase_is at finished in
      let size : length (front ++ closing) ≡ record_length h =
      omega (arith, whole, length-append front closing, length-append h.raw d.front) in
      record {
        wrote = record {
          front = front ++ closing;
          most = omega (arith, size);
          begins = front_there _ _ _ (Consumes-join _ _ _ front closing (taken h before 0 now w v d) closing_taken);
          grown = Appends-join w v u front closing d.grown p;
        };
        ends = (s.state.0 ∙ sym size, s.state.0, behind_head h before 0 now w v d (Ok tt) _ s.bytes);
      }
