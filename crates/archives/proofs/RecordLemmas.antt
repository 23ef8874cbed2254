-- The records in the members of a compressed archive.
use Rattle.archives.proofs.Words.{◌≡◌, ℕ, ◌+◌, ◌-◌, List, [], None, Some, Option, Ok, Err}
use Rattle.archives.proofs.Words.{IfSome, Cause, Fault}
use Rattle.archives.proofs.Words.{HEAD_LIMIT, HeadView, Reads, after_record, arith, ap, length, prepend_known}
use Rattle.archives.proofs.Words.{record-unclosed, record-whole}
use Rattle.archives.proofs.Words.{Bool, Result, refl, subst, sym, ◌∙◌, ◌∷◌}
use Rattle.std.proofs.Common.{true, nat_lt, option_map}
use Rattle.gzip_members.specs.Left.{behind_of, text_of}
use Rattle.gzip_members.specs.Members.{member_in}
use Rattle.gzip_members.specs.Reading.{Moves, Taken}
use Rattle.warc_core.specs.declared.fault.Cause.TheVariants as causes
use Rattle.warc_core.specs.Answers.{CountsRead}
use Rattle.warc_core.specs.HeadView.{block_at}
use Rattle.warc_core.specs.Walk.{record_at}
use Rattle.capture_core.specs.declared.place.Place.{Place}
use Rattle.archives.specs.Form.{Comes, ComesRecord, IsPossibleFault, Stored}
use Rattle.archives.specs.Packed.{held_by, held_in, held_with, member_holds, packed, packed_record}
use Rattle.archives.specs.MemberReading.{CountsClosing, Left, closed_by, file_ahead, ClosesTo, HoldsHead, ReadsOn}
use Rattle.archives.proofs.OpeningLemmas.{behind_in, behind_there, fails_there, fault_at, found_of, member_closed}
use Rattle.archives.proofs.PackedLemmas.{holds_less, packed_reads}

-- ---- a member with a record

some_text : (h : HeadView) (text behind rest : List ℕ) (ahead : Option (List ℕ))
    → Reads (record_at HEAD_LIMIT 0) (Ok (Some h)) (Some text) ahead
    → behind_in (held_with behind (held_by text (record_at HEAD_LIMIT 0 text))) ≡ Ok rest
    → held_with behind (held_by text (record_at HEAD_LIMIT 0 text)) ≡ Ok (Some (h, text), rest)
some_text h text behind rest None e k = absurd e
some_text h text behind rest (Some []) e k = grind arith
some_text h text behind rest (Some (b ∷ more)) e k = absurd (grind arith)

some_in : (m : Left) (h : HeadView) (rest : List ℕ) (ahead : Option (List ℕ))
    → Reads (record_at HEAD_LIMIT 0) (Ok (Some h)) (text_of (Some m)) ahead
    → behind_in (held_in HEAD_LIMIT m) ≡ Ok rest
    → (text : List ℕ) × (text_of (Some m) ≡ Some text) × (held_in HEAD_LIMIT m ≡ Ok (Some (h, text), rest))
some_in (Ok (text, behind)) h rest ahead e k = (text, refl, some_text h text behind rest ahead e k)
some_in (Err d) h rest ahead e k = absurd cc

pub holds_some : (bytes : List ℕ) (h : HeadView) (rest : List ℕ) (ahead : Option (List ℕ))
    → Reads (record_at HEAD_LIMIT 0) (Ok (Some h)) (text_of (Some (member_in bytes))) ahead
    → behind_in (member_holds HEAD_LIMIT bytes) ≡ Ok rest
    → (text : List ℕ) × (text_of (Some (member_in bytes)) ≡ Some text)
    × (member_holds HEAD_LIMIT bytes ≡ Ok (Some (h, text), rest))
unfolding member_holds
holds_some bytes h rest ahead e k = some_in (member_in bytes) h rest ahead e k

text_has : (P : List ℕ → Type 0) (known : Option (List ℕ)) (text : List ℕ) → IfSome known P
    → known ≡ Some text → P text
text_has P None text h e = absurd cc
text_has P (Some x) text h e = (let same : x ≡ text = grind arith in subst P same h)

module _ (start : ℕ) (bytes : List ℕ) (h : HeadView) (left left' : Option Left) (old mid new : Taken)
    (held : List ℕ) (before : Option (List ℕ)) (opened : HoldsHead start bytes h left old before)
    (on : ReadsOn left old left' mid) where
  -- the member's text, and what of it is ahead once the record was read
  abbrev text_known : Option (List ℕ)
  text_known = text_of (Some (member_in bytes))

  abbrev ahead : Option (List ℕ)
  ahead = prepend_known held (text_of left')

  -- the member was closed, in whose text that was found
  abbrev Closed : (A : Type 0) → Result Bool Cause → Result A Cause → Type 0
  Closed A found r = IfSome left' (λ l. ClosesTo (closed_by found (nat_lt 0 (length held)) l) r new.ahead)

  -- this holds of the record with that text
  abbrev HoldsOf : (Stored → Type 0) → Place → List ℕ → Type 0
  HoldsOf P place text = P (record { head = h; block = block_at h text; place = place })

  -- the record comes next, at that place
  abbrev Takes : (Stored → Type 0) → Place → Type 0
  Takes P place =
      ComesRecord (packed HEAD_LIMIT) start (record { head = h; place = place }) P (Some bytes) (file_ahead new)

  behind_known : option_map behind_of left' ≡ Some (behind_of (member_in bytes))
  behind_known = on.stays (behind_of (member_in bytes)) opened.behind

  whole : Reads (after_record h.parts.block_length) (Ok tt) before ahead
      → Reads (record_at HEAD_LIMIT 0) (Ok (Some h)) text_known ahead
  whole rest = record-whole HEAD_LIMIT 0 text_known before ahead h opened.reads rest

  stored_there : (l text : List ℕ) (place : Place) (P : Stored → Type 0) → Moves mid new → new.ahead ≡ Some l
      → text_known ≡ Some text → member_holds HEAD_LIMIT bytes ≡ Ok (Some (h, text), l)
      → place ≡ record { offset = start; length = new.passed - start } → HoldsOf P place text → Takes P place
  stored_there l text place P moves is t e at p =
      let total = moves.counted (start + length bytes) (on.counted (start + length bytes) opened.counted) in
      let less = holds_less HEAD_LIMIT bytes (Some (h, text)) l e in
      let there = behind_there start bytes l new opened.near total is less in
      let size : new.passed - start ≡ length bytes - length l = omega (arith, there.0) in
      let r = packed_record start bytes h text l in
      let same : place ≡ r.place = at ∙ ap (λ (n : ℕ). record { offset = start; length = n }) size in
      let next = packed_reads HEAD_LIMIT start bytes h text l opened.begins e in (
        r,
        ap (λ (q : Place). record { head = h; place = q }) (sym same),
        subst (λ (rest : Option (List ℕ)). Comes (packed HEAD_LIMIT) start (Ok (Some r)) (Some bytes) rest)
            (sym there.1) next,
        subst (λ (q : Place). HoldsOf P q text) same p,
      )

  by_ahead : (rest : Option (List ℕ)) (place : Place) (P : Stored → Type 0) → Moves mid new → new.ahead ≡ rest
      → Reads (record_at HEAD_LIMIT 0) (Ok (Some h)) text_known ahead
      → place ≡ record { offset = start; length = new.passed - start }
      → ClosesTo {A = Place} (behind_in (member_holds HEAD_LIMIT bytes)) (Ok place) rest
      → IfSome text_known (HoldsOf P place) → Takes P place
  by_ahead None place P moves is read at k p = absurd k
  by_ahead (Some l) place P moves is read at k p =
      let e = holds_some bytes h l ahead read k in
      stored_there l e.0 place P moves is e.1 e.2 at (text_has (HoldsOf P place) text_known e.0 p e.1)

  -- the record was read, and its member with it
  pub record_there : (place : Place) (P : Stored → Type 0) → Moves mid new
      → Reads (after_record h.parts.block_length) (Ok tt) before ahead
      → place ≡ record { offset = start; length = new.passed - start } → Closed Place (Ok true) (Ok place)
      → IfSome text_known (HoldsOf P place) → Takes P place
  record_there place P moves rest at closes p =
      let read = whole rest in
      by_ahead new.ahead place P moves refl read at
      (member_closed held Place (Ok place) new.ahead bytes (Ok (Some h)) left' behind_known read closes) p

  at_fault : (A : Type 0) (read : Result (Option HeadView) Cause) (f : Fault) → f.offset ≡ start
      → Reads (record_at HEAD_LIMIT 0) read text_known ahead → Closed A (found_of read) (Err f.cause)
      → IsPossibleFault (packed HEAD_LIMIT) start bytes f
  at_fault A read f at e closes =
      fault_at start bytes f at (fails_there start bytes f.cause opened.begins
      (member_closed held A (Err f.cause) new.ahead bytes read left' behind_known e closes))

  -- the record was read, and its member is at fault, or more follows
  pub member_fails : (f : Fault) → f.offset ≡ start
      → Reads (after_record h.parts.block_length) (Ok tt) before ahead → Closed Place (Ok true) (Err f.cause)
      → IsPossibleFault (packed HEAD_LIMIT) start bytes f
  member_fails f at rest closes = at_fault Place (Ok (Some h)) f at (whole rest) closes

  -- the record was not read
  pub record_fails : (c : Cause) (f : Fault) → f.offset ≡ start
      → Reads (after_record h.parts.block_length) (Err c) before ahead → Closed (Unit {0}) (Err c) (Err f.cause)
      → IsPossibleFault (packed HEAD_LIMIT) start bytes f
  record_fails c f at rest closes =
      let read = record-unclosed HEAD_LIMIT 0 text_known before ahead h c opened.reads rest in
      at_fault (Unit {0}) (Err c) f at read closes

-- a failure of the input is counted once
pub counts_closed : (c d : Cause) (old mid new : ℕ) → CountsRead {A = Unit {0}} (Err c) old mid
    → CountsClosing {A = Unit {0}} (Err c) (Err d) mid new → CountsRead {A = Unit {0}} (Err d) old new
counts_closed causes.Read d old mid new k e = grind arith
counts_closed c d old mid new k e = grind arith
