-- An archive that has grown.
use Rattle.index_core.proofs.Words.{◌≡◌, ◌∙◌, ℕ, Bool, List, [], ◌∷◌, ◌++◌, Some, Ok, Kind, HeadView}
use Rattle.index_core.proofs.Words.{AreCaptured, EntryValue, Limits, ap, append_assoc, arith, drop-append_seam, length}
use Rattle.index_core.proofs.Words.{length-append, option_to_list, read-spelled, refl, subst, sym, take}
use Rattle.std.specs.Prelude.{⊤}
use Rattle.std.proofs.Common.{◌+◌, ◌-◌, zero, suc, true, false, None, Result, Err}
use Rattle.warc_core.specs.declared.fault.Cause.{Cause}
use Rattle.std.proofs.Math.Seq.{take-append_seam}
use Rattle.warc_core.proofs.SpelledLemmas.{spelled-read}
use Rattle.warc_core.specs.HeadView.{block_at}
use Rattle.warc_core.specs.Record.{closing}
use Rattle.warc_core.specs.Walk.{record_at}
use Rattle.archives.specs.MemberReading.{Left}
use Rattle.gzip_members.specs.Members.{member_in}
use Rattle.gzip_members.specs.Starts.{begins_member}
use Rattle.gzip_members.specs.declared.fault.MemberFault.{MemberFault}
use Rattle.gzip_members.proofs.{RowLemmas.begins_more, StayLemmas.IsWhole, StayLemmas.member_stays}
use Rattle.archives.specs.Form.{Form, IsLawful, Stored, WalksOver, end_of, plain, plain_record}
use Rattle.archives.specs.Packed.{Found, Held, held_by, held_in, held_with, member_holds, packed, packed_at, packed_next}
use Rattle.archives.specs.Packed.{packed_within}
use Rattle.archives.specs.Packing.{Packed, Plain}
use Rattle.archives.proofs.ContentsLemmas.{whole_over}
use Rattle.archives.proofs.PackedLemmas.{packed_lawful, packed_passes, packed_reads}
use Rattle.index_core.specs.Accepted.{IsAccepted}
use Rattle.archives.proofs.PlainLemmas.{plain_lawful, plain_read, plain_reads}
use Rattle.index_core.proofs.AcceptedLemmas.{captured_once}
use Rattle.index_core.specs.Laws.{GrownKeepsCaptures}

-- the block stands behind the head, whatever follows
block_there : (h : HeadView) (block rest bytes : List ℕ) → length block ≡ h.parts.block_length
    → bytes ≡ h.raw ++ (block ++ rest) → block_at h bytes ≡ block
block_there h block rest bytes sized is =
    rw (is, ← sized) (ap (take (length block)) (drop-append_seam h.raw (block ++ rest)) ∙ take-append_seam block rest)

module _ (limit : ℕ) (more : List ℕ) where
  -- a record that is read is read with more bytes behind it
  read_grown : (start : ℕ) (bytes rest : List ℕ) (h : HeadView) → record_at limit start bytes ≡ Ok (Some h, rest)
      → (record_at limit start (bytes ++ more) ≡ Ok (Some h, rest ++ more))
      × (block_at h (bytes ++ more) ≡ block_at h bytes)
  read_grown start bytes rest h e =
      let s = read-spelled limit start bytes rest h e in
      let same : bytes ++ more ≡ s.1 ++ (rest ++ more) = ap (λ (b : List ℕ). b ++ more) s.3 ∙ append_assoc s.1 rest more in
      let spelled = s.2.is_text.spelled in
      let sized = s.2.is_text.block_length in (
        rw same (spelled-read limit start h s.0 s.1 (rest ++ more) s.2),
        block_there h s.0 (closing ++ (rest ++ more)) (bytes ++ more) sized (grind (arith, append_assoc))
            ∙ sym (block_there h s.0 (closing ++ rest) bytes sized (grind (arith, append_assoc))),
      )

  next_grown : (start : ℕ) (bytes rest : List ℕ) (r : Stored) → (plain limit).next start bytes ≡ Ok (Some r, rest)
      → (plain limit).next start (bytes ++ more) ≡ Ok (Some r, rest ++ more)
  next_grown start bytes rest r e =
      let p = plain_read limit start bytes rest r e in
      let grown = read_grown start bytes rest p.0 p.1 in
      let reads = plain_reads limit start (bytes ++ more) (rest ++ more) p.0 grown.0 in
      let same : plain_record p.0 (bytes ++ more) ≡ r = (let block = grown.1 in let is = p.2 in cc) in
      rw (← same) reads

-- ---- a compressed archive

module _ (limit : ℕ) (more : List ℕ) where
  with_grown : (behind after : List ℕ) (held : Held) (found : Result Held Cause) → held_with behind found ≡ Ok (held, after)
      → held_with (behind ++ more) found ≡ Ok (held, after ++ more)
  with_grown behind after held (Ok other) e = grind arith
  with_grown behind after held (Err c) e = absurd (grind arith)

  held_grown : (bytes after : List ℕ) (held : Held) (member : Left)
      → member_in bytes ≡ member → held_in limit member ≡ Ok (held, after)
      → held_in limit (member_in (bytes ++ more)) ≡ Ok (held, after ++ more)
  held_grown bytes after held (Ok (text, behind)) is e =
      let whole : IsWhole (member_in bytes) = subst (λ r. IsWhole r) (sym is) tt in
      let stays = rw is at (member_stays bytes more whole) in
      rw stays (with_grown behind after held (held_by text (record_at limit 0 text)) e)
  held_grown bytes after held (Err fault) is e = absurd (grind arith)

  -- what a member holds
  holds_grown : (bytes after : List ℕ) (held : Held) → member_holds limit bytes ≡ Ok (held, after)
      → member_holds limit (bytes ++ more) ≡ Ok (held, after ++ more)
  unfolding member_holds
  holds_grown bytes after held e = held_grown bytes after held (member_in bytes) refl e

  -- what was found of the bytes at an offset, if it is a record
  abbrev IsFoundAgain : ℕ → List ℕ → Found → Type 0
  IsFoundAgain offset bytes (Ok (Some r, rest)) = (packed limit).next offset (bytes ++ more) ≡ Ok (Some r, rest ++ more)
  IsFoundAgain offset bytes (Ok (None, rest)) = ⊤
  IsFoundAgain offset bytes (Err fault) = ⊤

  found_behind : (offset o : ℕ) (bytes behind : List ℕ) (found : Found)
      → (packed limit).next offset (bytes ++ more) ≡ (packed limit).next o (behind ++ more)
      → IsFoundAgain o behind found → IsFoundAgain offset bytes found
  found_behind offset o bytes behind (Ok (Some r, rest)) e g = e ∙ g
  found_behind offset o bytes behind (Ok (None, rest)) e g = tt
  found_behind offset o bytes behind (Err fault) e g = tt

  same_size : (bytes behind : List ℕ) → length (bytes ++ more) - length (behind ++ more) ≡ length bytes - length behind
  same_size bytes behind = omega (arith, length-append bytes more, length-append behind more)

  next_again : (next : ℕ → List ℕ → Found) (offset : ℕ) (bytes : List ℕ) (r : Result (Held × List ℕ) Cause)
      → begins_member bytes ≡ Ok true → member_holds limit bytes ≡ r
      → ((o : ℕ) (l : List ℕ) → IsFoundAgain o l (next o l)) → IsFoundAgain offset bytes (packed_next next offset bytes r)
  next_again next offset bytes (Ok (None, behind)) b is all =
      let o = offset + (length bytes - length behind) in
      let passes = packed_passes limit offset (bytes ++ more) (behind ++ more) (begins_more bytes more b)
      (holds_grown bytes behind None is) in
      found_behind offset o bytes behind (next o behind) (rw (← same_size bytes behind) passes) (all o behind)
  next_again next offset bytes (Ok (Some (h, text), behind)) b is all =
      let reads = packed_reads limit offset (bytes ++ more) h text (behind ++ more) (begins_more bytes more b)
      (holds_grown bytes behind (Some (h, text)) is) in
      rw (← same_size bytes behind) reads
  next_again next offset bytes (Err c) b is all = tt

  at_again : (next : ℕ → List ℕ → Found) (offset : ℕ) (bytes : List ℕ) (b : Result Bool MemberFault)
      → begins_member bytes ≡ b → ((o : ℕ) (l : List ℕ) → IsFoundAgain o l (next o l))
      → IsFoundAgain offset bytes (packed_at next limit offset bytes b)
  at_again next offset bytes (Ok false) is all = tt
  at_again next offset bytes (Ok true) is all = next_again next offset bytes (member_holds limit bytes) is refl all
  at_again next offset bytes (Err fault) is all = tt

  within_again : (n offset : ℕ) (bytes : List ℕ) → IsFoundAgain offset bytes (packed_within limit n offset bytes)
  unfolding packed_within
  within_again zero offset bytes = tt
  within_again (suc n) offset bytes =
      at_again (packed_within limit n) offset bytes (begins_member bytes) refl (within_again n)

  packed_grown : (offset : ℕ) (bytes rest : List ℕ) (r : Stored) → (packed limit).next offset bytes ≡ Ok (Some r, rest)
      → (packed limit).next offset (bytes ++ more) ≡ Ok (Some r, rest ++ more)
  unfolding packed
  packed_grown offset bytes rest r e =
      subst (IsFoundAgain offset bytes) e (within_again (suc (length bytes)) offset bytes)

-- ---- an archive of either form

module _ (types : Kind → Bool) (limits : Limits) (form : Form) (name : List ℕ) where
  -- the captures of the first records, and those of the others
  captured_parts : (records others : List Stored) (captures : List EntryValue)
      → AreCaptured types limits form name (records ++ others) captures
      → (first : List EntryValue) × (later : List EntryValue) × AreCaptured types limits form name records first
      × (captures ≡ first ++ later)
  captured_parts [] others captures c = ([], captures, refl, refl)
  captured_parts (r ∷ records) others captures c =
      let parts = captured_parts records others c.1 c.3 in (
        option_to_list c.0 ++ parts.0,
        parts.1,
        (c.0, parts.0, c.2, parts.2, refl),
        c.4 ∙ ap (λ (es : List EntryValue). option_to_list c.0 ++ es) parts.3
            ∙ sym (append_assoc (option_to_list c.0) parts.0 parts.1),
      )

  module _ (lawful : IsLawful form) (more : List ℕ)
      (next_grown : (offset : ℕ) (bytes rest : List ℕ) (r : Stored) → form.next offset bytes ≡ Ok (Some r, rest)
      → form.next offset (bytes ++ more) ≡ Ok (Some r, rest ++ more)) where
    walk_grown : (start : ℕ) (bytes : List ℕ) (records : List Stored) (end : ℕ) (rest : List ℕ)
        → WalksOver form start bytes records end rest → WalksOver form start (bytes ++ more) records end (rest ++ more)
    walk_grown start bytes [] end rest w = (w.0, ap (λ (b : List ℕ). b ++ more) w.1)
    walk_grown start bytes (r ∷ records) end rest w =
        (w.0 ++ more, next_grown start bytes w.0 r w.1, walk_grown (end_of r.place) w.0 records end rest w.2)

    keeps : (archive : List ℕ) (captures grown : List EntryValue) → IsAccepted types limits form name archive captures
        → IsAccepted types limits form name (archive ++ more) grown
        → (added : List EntryValue) × (grown ≡ captures ++ added)
    keeps archive captures grown a b =
        let walks = walk_grown 0 archive a.records a.whole.end a.whole.rest a.whole.walks in
        let all = whole_over form lawful (archive ++ more) b.records b.whole a.records a.whole.end (a.whole.rest ++ more)
        walks in
        let parts = captured_parts a.records _ grown (rw all at b.captured) in
        let same = captured_once types limits form name a.records parts.0 captures parts.2 a.captured in
        (parts.1, rw (← same) parts.3)

pub grown_keeps : GrownKeepsCaptures
grown_keeps types limits limit Plain name archive more captures grown a b =
    keeps types limits (plain limit) name (plain_lawful limit) more (next_grown limit more) archive captures grown a b
grown_keeps types limits limit Packed name archive more captures grown a b =
    keeps types limits (packed limit) name (packed_lawful limit) more (packed_grown limit more) archive captures grown a b
