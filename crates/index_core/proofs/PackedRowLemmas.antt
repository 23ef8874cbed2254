-- A member of each record of a plain archive, in a row.
use Rattle.index_core.proofs.Words.{◌≡◌, ◌∙◌, ℕ, ◌+◌, ◌-◌, List, [], ◌∷◌, ◌++◌, Some}
use Rattle.index_core.proofs.Words.{Ok, ap, arith, append-nil, append_assoc, drop, take, length, length-append}
use Rattle.index_core.proofs.Words.{refl, subst, sym, drop-append_seam}
use Rattle.index_core.proofs.Words.{HeadView, record_length, read-spelled}
use Rattle.std.proofs.Math.Seq.{take-append_seam}
use Rattle.gzip_members.specs.Laws.{IsMember, in_a_row}
use Rattle.gzip_members.proofs.RowLemmas.{begins_more}
use Rattle.gzip_members.proofs.StayLemmas.{member_followed}
use Rattle.warc_core.specs.HeadView.{block_at}
use Rattle.warc_core.specs.Record.{closing}
use Rattle.warc_core.specs.RecordText.{IsReadFrom}
use Rattle.warc_core.specs.Walk.{record_at}
use Rattle.warc_core.proofs.SpelledLemmas.{spelled-read}
use Rattle.archives.specs.Form.{Stored, WalksOver, end_of, plain}
use Rattle.archives.specs.Packed.{held_by, held_in, held_with, member_holds, packed}
use Rattle.archives.proofs.PackedLemmas.{packed_ends, packed_reads}
use Rattle.archives.proofs.PlainLemmas.{heads_of, plain_read, plain_walk}
use Rattle.archives.proofs.RecordWalks.{walks_more}
use Rattle.index_core.specs.PackedLaws.{ArePacked, MembersAreRecords, bytes_at, from_start, in_member, in_members}
use Rattle.index_core.proofs.ArchiveWalks as archives

-- ---- one record

-- the block of a record, by its text
text_block : (limit start : ℕ) (h : HeadView) (block text rest : List ℕ) → IsReadFrom limit start h block text
    → block_at h (text ++ rest) ≡ block
text_block limit start h block text rest r =
    let spelled : text ++ rest ≡ h.raw ++ (block ++ (closing ++ rest)) =
    ap (λ l. l ++ rest) r.is_text.spelled ∙ append_assoc h.raw (block ++ closing) rest
    ∙ ap (λ l. h.raw ++ l) (append_assoc block closing rest) in
    ap (λ l. take h.parts.block_length (drop (length h.raw) l)) spelled
    ∙ ap (take h.parts.block_length) (drop-append_seam h.raw (block ++ (closing ++ rest)))
    ∙ ap (λ n. take n (block ++ (closing ++ rest))) (sym r.is_text.block_length)
    ∙ take-append_seam block (closing ++ rest)

text_length : (limit start : ℕ) (h : HeadView) (block text : List ℕ) → IsReadFrom limit start h block text
    → length text ≡ record_length h
text_length limit start h block text r =
    omega (arith, ap length r.is_text.spelled, length-append h.raw (block ++ closing), length-append block closing, r.is_text.block_length)

-- the same record at the start of its text
moved : (limit start : ℕ) (h : HeadView) (block text : List ℕ) → IsReadFrom limit start h block text
    → IsReadFrom limit 0 (from_start h) block text
moved limit start h block text r = record { is_text = r.is_text; start_is = refl; fits = omega (arith, r.fits) }

module _ (limit : ℕ) where
  -- what the member of a record holds
  holds : (h : HeadView) (block text member more : List ℕ) → IsReadFrom limit 0 h block text → IsMember member text
      → member_holds limit (member ++ more) ≡ Ok (Some (h, text), more)
  unfolding member_holds
  holds h block text member more r is =
      let read : record_at limit 0 text ≡ Ok (Some h, []) =
      ap (record_at limit 0) (sym (append-nil text)) ∙ spelled-read limit 0 h block text [] r in
      ap (held_in limit) (member_followed member more text is) ∙ ap (λ x. held_with more (held_by text x)) read

  -- and what comes next where it stands
  next_record : (at : ℕ) (h : HeadView) (block text member more : List ℕ) → IsReadFrom limit 0 h block text
      → IsMember member text
      → (packed limit).next at (member ++ more)
      ≡ Ok (Some (record { head = h; block = block; place = record { offset = at; length = length member } }), more)
  next_record at h block text member more r is =
      let size : length (member ++ more) - length more ≡ length member = omega (arith, length-append member more) in
      let same : block_at h text ≡ block = ap (block_at h) (sym (append-nil text)) ∙ text_block limit 0 h block text [] r in
      packed_reads limit at (member ++ more) h text more (begins_more member more is.begins)
      (holds h block text member more r is)
      ∙ ap (λ n. Ok (Some (record { head = h; block = block_at h text; place = record { offset = at; length = n } }), more)) size
      ∙ ap (λ l. Ok (Some (record { head = h; block = l; place = record { offset = at; length = length member } }), more)) same

  module _ (archive : List ℕ) where
    -- a record of the archive that was packed
    one_packed : (before : List Stored) (start at : ℕ) (bytes later member more : List ℕ) (r : Stored)
        → WalksOver (plain limit) 0 archive before start bytes → (plain limit).next start bytes ≡ Ok (Some r, later)
        → IsMember member (bytes_at archive r.place)
        → (packed limit).next at (member ++ more) ≡ Ok (Some (in_member at (length member) r), more)
    one_packed before start at bytes later member more r w e is =
        let p = plain_read limit start bytes later r e in
        let h = p.0 in
        let s = read-spelled limit start bytes later h p.1 in
        let block = s.0 in
        let text = s.1 in
        let there : drop h.start archive ≡ bytes =
        archives.from_start limit archive (heads_of before) start bytes (plain_walk limit 0 archive before start bytes w) h later p.1 in
        let whole : take (record_length h) bytes ≡ text =
        ap (take (record_length h)) s.3 ∙ ap (λ n. take n (text ++ later)) (sym (text_length limit start h block text s.2))
        ∙ take-append_seam text later in
        let at_place : bytes_at archive r.place ≡ text =
        ap (λ (x : Stored). bytes_at archive x.place) p.2 ∙ ap (take (record_length h)) there ∙ whole in
        let same_block : block_at h bytes ≡ block = ap (block_at h) s.3 ∙ text_block limit start h block text later s.2 in
        next_record at (from_start h) block text member more (moved limit start h block text s.2)
        (subst (IsMember member) at_place is)
        ∙ ap (λ l. Ok (Some (record { head = from_start h; block = l; place = record { offset = at; length = length member } }), more))
        (sym same_block)
        ∙ ap (λ x. Ok (Some (in_member at (length member) x), more)) (sym p.2)

    -- ---- all of them

    packed_walk : (before records : List Stored) (members : List (List ℕ)) (start at end : ℕ) (bytes rest : List ℕ)
        → WalksOver (plain limit) 0 archive before start bytes → WalksOver (plain limit) start bytes records end rest
        → ArePacked archive records members
        → WalksOver (packed limit) at (in_a_row members) (in_members at records members) (at + length (in_a_row members)) []
    packed_walk before [] [] start at end bytes rest w v a = (omega arith, refl)
    packed_walk before [] (member ∷ members) start at end bytes rest w v a = absurd a
    packed_walk before (r ∷ records) [] start at end bytes rest w v a = absurd a
    packed_walk before (r ∷ records) (member ∷ members) start at end bytes rest w (later, e, v) (is, a) =
        let row = in_a_row members in
        let next = one_packed before start at bytes later member row r w e is in
        let others = packed_walk (before ++ r ∷ []) records members (end_of r.place) (at + length member) end later rest
        (walks_more (plain limit) 0 archive before start bytes r later w e) v a in
        let same : at + length member + length row ≡ at + length (member ++ row) = omega (arith, length-append member row) in
        (row, next, subst (λ n. WalksOver (packed limit) (at + length member) row (in_members (at + length member) records members) n []) same others)

pub members_are_records : MembersAreRecords
members_are_records limit archive records members whole a = record {
  end = 0 + length (in_a_row members);
  rest = [];
  walks = packed_walk limit archive [] records members 0 0 whole.end archive whole.rest (refl, refl) whole.walks a;
  ended = packed_ends limit (0 + length (in_a_row members)) [] refl;
}
