-- The record of a member of a compressed archive, as it is fetched.
use Rattle.index_core.proofs.Words.{◌≡◌, ◌∙◌, ℕ, ◌+◌, ◌-◌, ◌<◌, ◌≤◌, inl, inr, List, [], ◌∷◌, ◌++◌, Option}
use Rattle.index_core.proofs.Words.{◌^◌, None, Some, Result, Ok, Err, IfSome, length, take, drop, refl}
use Rattle.index_core.proofs.Words.{sym, ap, subst, arith}
use Rattle.index_core.proofs.Words.{Appends, Cause, Fault, AppendsPrefix, HeadView, record_length, Reads, Archive}
use Rattle.index_core.proofs.Words.{IndexFault, HEAD_LIMIT, append-nil, length-append, read-spelled, record-whole}
use Rattle.index_core.proofs.Words.{prepend_known, after_record}
use Rattle.std.proofs.Common.{true, false, nat_lt, option_map}
use Rattle.std.proofs.lemmas.List.{take-append-drop, take_all}
use Rattle.devices.proofs.WritingLemmas.{prefix_longer, wrote_nothing}
use Rattle.gzip_members.specs.Left.{behind_of, text_of}
use Rattle.gzip_members.specs.declared.fault.MemberFault.{MemberFault}
use Rattle.gzip_members.specs.declared.fault.MemberFault.TheVariants as members
use Rattle.gzip_members.specs.Members.{member_in}
use Rattle.gzip_members.specs.Reading.{Moves, Taken}
use Rattle.gzip_members.specs.Starts.{begins_member}
use Rattle.warc_core.specs.Next.{next_at}
use Rattle.warc_core.specs.Walk.{record_at}
use Rattle.capture_core.specs.declared.place.Place.{Place}
use Rattle.archives.specs.Form.{IsPossibleFault}
use Rattle.archives.specs.Packed.{Held, held_by, held_in, held_with, member_holds, packed}
use Rattle.archives.specs.MemberReading.{Left, ClosesTo, HoldsHead, IsLater, ReadsOn, closed_by}
use Rattle.archives.specs.MemberReading.{file_ahead}
use Rattle.archives.proofs.MemberLemmas.{IsBegun, holds_fault, some_known, within_known}
use Rattle.archives.proofs.OpeningLemmas.{behind_in, behind_there, member_closed}
use Rattle.archives.proofs.PackedLemmas.{holds_less, packed_fails, packed_lawful, packed_onward, packed_passes}
use Rattle.archives.proofs.PackedLemmas.{packed_reads}
use Rattle.archives.proofs.RecordLemmas.{holds_some, member_fails, record_fails}
use Rattle.warc_core.specs.Answers.{CountsRead}
use Rattle.index_core.specs.Counting.{CountsIndex}
use Rattle.index_core.specs.Copying.{CopiesRecord}
use Rattle.index_core.specs.Fetching.{most_written}
use Rattle.index_core.specs.FetchingIn.{FetchesMember, HoldsNone, HoldsRecord, IsMemberFault, IsOfLength}
use Rattle.index_core.specs.FetchingIn.{WritesOfMember, cause_in, not_begun}
use Rattle.index_core.proofs.FetchLemmas.{next_copied}
use Rattle.index_core.specs.declared.fault.IndexFault.TheVariants as faults

-- ---- what was written

written_most : (r : Result (Option HeadView × List ℕ) Cause) (text : List ℕ) (w u : Option (List ℕ))
    → AppendsPrefix w u (most_written r text) → AppendsPrefix w u text
written_most (Ok (Some h, rest)) text w u p =
    subst (AppendsPrefix w u) (take-append-drop (record_length h) text)
    (prefix_longer w u (take (record_length h) text) (drop (record_length h) text) p)
written_most (Ok (None, rest)) text w u p = p
written_most (Err c) text w u p = p

wrote_all : (n : ℕ) (front text : List ℕ) (w u : Option (List ℕ)) → Appends w u front → front ≡ take n text
    → AppendsPrefix w u text
wrote_all n front text w u a e =
    let whole = sym (take-append-drop n text) ∙ ap (λ l. l ++ drop n text) (sym e) in
    (drop n text, record { front = front; whole = whole; grown = a })

-- a record's text, or its front, is in front of what it was read from
record_written : (h : HeadView) (r : Result ℕ IndexFault) (text : List ℕ) (mid after w u : Option (List ℕ))
    → Reads (next_at HEAD_LIMIT 0) (Ok (Some h)) (Some text) mid → h.start ≡ 0 → CopiesRecord h r mid after w u
    → AppendsPrefix w u text
record_written h (Ok n) text mid after w u e at c =
    let k = next_copied HEAD_LIMIT 0 h (Ok n) (Some text) mid after w u e at c in
    wrote_all (record_length k.3.0) k.0 text w u k.2 k.3.3
record_written h (Err (faults.Capture (Archive f))) text mid after w u e at c =
    let k = next_copied HEAD_LIMIT 0 h (Err (faults.Capture (Archive f))) (Some text) mid after w u e at c in
    written_most (record_at HEAD_LIMIT 0 text) text w u k.1.1
record_written h (Err faults.Write) text mid after w u e at c =
    written_most (record_at HEAD_LIMIT 0 text) text w u
    (next_copied HEAD_LIMIT 0 h (Err faults.Write) (Some text) mid after w u e at c)
record_written h r text mid after w u e at c = grind arith

pub writes_nothing : (bytes : List ℕ) (w : Option (List ℕ)) → WritesOfMember HEAD_LIMIT bytes w w
writes_nothing bytes w = λ text behind e. wrote_nothing w text

-- ---- what a member holds

holds_cases : (P : Type 0) (bytes : List ℕ) (x : Result (Held × List ℕ) Cause) → member_holds HEAD_LIMIT bytes ≡ x
    → ((c : Cause) → member_holds HEAD_LIMIT bytes ≡ Err c → P)
    → ((behind : List ℕ) → member_holds HEAD_LIMIT bytes ≡ Ok (None, behind) → P)
    → ((h : HeadView) (text behind : List ℕ) → member_holds HEAD_LIMIT bytes ≡ Ok (Some (h, text), behind) → P) → P
holds_cases P bytes (Err c) e bad none some = bad c e
holds_cases P bytes (Ok (None, behind)) e bad none some = none behind e
holds_cases P bytes (Ok (Some (h, text), behind)) e bad none some = some h text behind e

module _ (start : ℕ) (bytes : List ℕ) (begins : begins_member bytes ≡ Ok true) where
  -- a fault at its beginning is that of the member
  pub member_fault_is : (f : Fault) → f.offset ≡ start → IsPossibleFault (packed HEAD_LIMIT) start bytes f
      → IsMemberFault HEAD_LIMIT bytes f.cause
  member_fault_is f at (follows, inl memory) = inl memory
  member_fault_is f at (follows, inr (inl input)) = inr (inl input)
  member_fault_is f at (follows, inr (inr e)) =
      holds_cases (IsMemberFault HEAD_LIMIT bytes f.cause) bytes (member_holds HEAD_LIMIT bytes) refl
      (λ c is. let same = sym (packed_fails HEAD_LIMIT start bytes c begins is) ∙ e in
      let cause : c ≡ f.cause = grind arith in
      inr (inr (inl (begins, is ∙ ap (λ d. Err d) cause))))
      (λ behind is.
      let later = sym (packed_passes HEAD_LIMIT start bytes behind begins is) ∙ e in
      let far = packed_onward HEAD_LIMIT _ _ ((packed_lawful HEAD_LIMIT).failed _ behind f later) in
      let less = holds_less HEAD_LIMIT bytes None behind is in
      absurd (omega (arith, far, less, at)))
      (λ h text behind is.
      let same = sym (packed_reads HEAD_LIMIT start bytes h text behind begins is) ∙ e in
      absurd cc)

  -- a member of which what comes next is found behind it holds nothing
  pub holds_nothing : (new : Taken) → start < new.passed → IsLater start bytes new
      → (behind : List ℕ) × (begins_member bytes ≡ Ok true) × (member_holds HEAD_LIMIT bytes ≡ Ok (None, behind))
  holds_nothing new further (later, ahead, e) =
      holds_cases _ bytes (member_holds HEAD_LIMIT bytes) refl
      (λ c is.
      let found = sym e ∙ packed_fails HEAD_LIMIT start bytes c begins is in
      let far = packed_onward HEAD_LIMIT _ _ ((packed_lawful HEAD_LIMIT).failed new.passed later _ found) in
      absurd (omega (arith, far, further)))
      (λ behind is. (behind, begins, is))
      (λ h text behind is.
      let found = sym e ∙ packed_reads HEAD_LIMIT start bytes h text behind begins is in
      let far = packed_onward HEAD_LIMIT _ _ ((packed_lawful HEAD_LIMIT).found new.passed later behind _ found) in
      absurd (omega (arith, far, further)))

-- ---- a record in a member

-- the fault of a record that was copied in part
read_to : (h : HeadView) (fault : IndexFault) (cause : Cause) (before after w u : Option (List ℕ))
    → cause_in fault ≡ Some cause → CopiesRecord h (Err fault) before after w u
    → Reads (after_record h.parts.block_length) (Err cause) before after
read_to h (faults.Capture (Archive f)) cause before after w u is c =
    let same : f.cause ≡ cause = grind arith in
    subst (λ d. Reads (after_record h.parts.block_length) (Err d) before after) same c.ends.1
read_to h fault cause before after w u is c = absurd (grind arith)

read_by : (h : HeadView) (text b behind : List ℕ) (r : Result (Option HeadView × List ℕ) Cause)
    → held_with b (held_by text r) ≡ Ok (Some (h, text), behind) → r ≡ Ok (Some h, [])
read_by h text b behind (Ok (None, more)) e = absurd (grind arith)
read_by h text b behind (Ok (Some k, [])) e = grind arith
read_by h text b behind (Ok (Some k, x ∷ more)) e = absurd cc
read_by h text b behind (Err c) e = absurd cc

read_in : (m : Left) (h : HeadView) (text behind : List ℕ) → text_of (Some m) ≡ Some text
    → held_in HEAD_LIMIT m ≡ Ok (Some (h, text), behind) → record_at HEAD_LIMIT 0 text ≡ Ok (Some h, [])
read_in (Ok (t, b)) h text behind is e =
    let same : t ≡ text = grind arith in
    read_by h text b behind (record_at HEAD_LIMIT 0 text)
    (subst (λ l. held_with b (held_by l (record_at HEAD_LIMIT 0 l)) ≡ Ok (Some (h, text), behind)) same e)
read_in (Err d) h text behind is e = absurd cc

-- what a member holds was read from its text
holds_read : (bytes : List ℕ) (h : HeadView) (text behind : List ℕ) → text_of (Some (member_in bytes)) ≡ Some text
    → member_holds HEAD_LIMIT bytes ≡ Ok (Some (h, text), behind) → record_at HEAD_LIMIT 0 text ≡ Ok (Some h, [])
unfolding member_holds
holds_read bytes h text behind is e = read_in (member_in bytes) h text behind is e

-- the text of a record that nothing follows
takes_whole : (k h : HeadView) (text rest : List ℕ) → record_at HEAD_LIMIT 0 text ≡ Ok (Some k, rest)
    → record_at HEAD_LIMIT 0 text ≡ Ok (Some h, []) → take (record_length k) text ≡ text
takes_whole k h text rest e is =
    let none : rest ≡ [] = grind arith in
    let s = read-spelled HEAD_LIMIT 0 text rest k e in
    grind (arith, append-nil, take_all, length-append)

module _ (start : ℕ) (bytes : List ℕ) (h : HeadView) (left left' : Option Left) (old mid new : Taken) (held : List ℕ)
    (before w u : Option (List ℕ)) (opened : HoldsHead start bytes h left old before) (on : ReadsOn left old left' mid)
    (zero : h.start ≡ 0) where
  -- at most the member's text was written
  pub writes_record : (r : Result ℕ IndexFault) (after : Option (List ℕ)) → CopiesRecord h r before after w u
      → WritesOfMember HEAD_LIMIT bytes w u
  writes_record r after c = λ text behind e.
      record_written h r text before after w u
      (subst (λ m. Reads (next_at HEAD_LIMIT 0) (Ok (Some h)) (text_of (Some m)) before) e opened.reads) zero c

  module _ (n : ℕ) (place : Place) (moves : Moves mid new)
      (c : CopiesRecord h (Ok n) before (prepend_known held (text_of left')) w u)
      (at : place ≡ record { offset = start; length = new.passed - start })
      (closes : IfSome left'
      (λ l. ClosesTo {A = Place} (closed_by (Ok true) (nat_lt 0 (length held)) l) (Ok place) new.ahead))
    where
      read : Reads (record_at HEAD_LIMIT 0) (Ok (Some h)) (text_of (Some (member_in bytes)))
          (prepend_known held (text_of left'))
      read = record-whole HEAD_LIMIT 0 (text_of (Some (member_in bytes))) before (prepend_known held (text_of left')) h
          opened.reads c.ends.2

      abbrev Found : Type 0
      Found = (text : List ℕ) × (behind : List ℕ) × HoldsRecord HEAD_LIMIT bytes text behind
          × (text_of (Some (member_in bytes)) ≡ Some text) × (place.length ≡ length bytes - length behind)

      found_by : (known : Option (List ℕ)) → new.ahead ≡ known
          → ClosesTo {A = Place} (behind_in (member_holds HEAD_LIMIT bytes)) (Ok place) known → Found
      found_by None is k = absurd k
      found_by (Some l) is k =
          let s = holds_some bytes h l (prepend_known held (text_of left')) read k in
          let total = moves.counted (start + length bytes) (on.counted (start + length bytes) opened.counted) in
          let there = behind_there start bytes l new opened.near total is
          (holds_less HEAD_LIMIT bytes (Some (h, s.0)) l s.2) in (
            s.0,
            l,
            record { begins = opened.begins; head = h; holds = s.2 },
            s.1,
            ap (λ p. p.length) at ∙ omega (arith, there.0),
          )

      found : Found
      found = found_by new.ahead refl (member_closed held Place (Ok place) new.ahead bytes (Ok (Some h)) left'
          (on.stays (behind_of (member_in bytes)) opened.behind) read closes)

      pub record_fetched : (asked : Option ℕ) → IsOfLength asked place.length
          → FetchesMember HEAD_LIMIT asked start (Some bytes) (Ok n) w u
      record_fetched asked has =
          let text = found.0 in
          let reads : Reads (next_at HEAD_LIMIT 0) (Ok (Some h)) (Some text) before =
          subst (λ known. Reads (next_at HEAD_LIMIT 0) (Ok (Some h)) known before) found.3 opened.reads in
          let after = prepend_known held (text_of left') in
          let k = next_copied HEAD_LIMIT 0 h (Ok n) (Some text) before after w u reads zero c in
          let whole = holds_read bytes found.2.head text found.1 found.3 found.2.holds in
          let same : k.0 ≡ text = k.3.3 ∙ takes_whole k.3.0 found.2.head text k.3.1 k.3.2 whole in (
            text,
            k.1 ∙ ap length same,
            subst (Appends w u) same k.2,
            (found.1, found.2, subst (IsOfLength asked) found.4 has),
          )

      pub record_unasked : (asked : Option ℕ) → (IsOfLength asked place.length → ⊥)
          → FetchesMember HEAD_LIMIT asked start (Some bytes) (Err faults.NoRecord) w u
      record_unasked asked other = (
        inr (inr (inr (found.0, found.1, found.2, λ has. other (subst (IsOfLength asked) (sym found.4) has)))),
        writes_record (Ok n) (prepend_known held (text_of left')) c,
      )

  module _ (asked : Option ℕ) where
    -- the record was read, and its member is at fault, or more follows
    pub member_stopped : (n : ℕ) (f : Fault) → f.offset ≡ start
        → CopiesRecord h (Ok n) before (prepend_known held (text_of left')) w u
        → IfSome left'
        (λ l. ClosesTo {A = Place} (closed_by (Ok true) (nat_lt 0 (length held)) l) (Err f.cause) new.ahead)
        → FetchesMember HEAD_LIMIT asked start (Some bytes) (Err (faults.Capture (Archive f))) w u
    member_stopped n f at c closes = (
      at,
      (
        member_fault_is start bytes opened.begins f at
            (member_fails start bytes h left left' old mid new held before opened
            on f at c.ends.2 closes),
        writes_record (Ok n) (prepend_known held (text_of left')) c,
      ),
    )

    -- the record was not read
    pub record_stopped : (fault : IndexFault) (cause : Cause) (f : Fault) → f.offset ≡ start
        → cause_in fault ≡ Some cause
        → CopiesRecord h (Err fault) before (prepend_known held (text_of left')) w u
        → IfSome left'
        (λ l. ClosesTo {A = Unit {0}} (closed_by (Err cause) (nat_lt 0 (length held)) l) (Err f.cause) new.ahead)
        → FetchesMember HEAD_LIMIT asked start (Some bytes) (Err (faults.Capture (Archive f))) w u
    record_stopped fault cause f at is c closes = (
      at,
      (
        member_fault_is start bytes opened.begins f at
            (record_fails start bytes h left left' old mid new held before opened
            on cause f at (read_to h fault cause before (prepend_known held (text_of left')) w u is c) closes),
        writes_record (Err fault) (prepend_known held (text_of left')) c,
      ),
    )

-- ---- by what is known of the file

module _ (asked : Option ℕ) (start : ℕ) (w u : Option (List ℕ)) where
  pub output_stopped : (h : HeadView) (fault : IndexFault) (known before after : Option (List ℕ))
      → cause_in fault ≡ None
      → CopiesRecord h (Err fault) before after w u → IfSome known (λ bytes. WritesOfMember HEAD_LIMIT bytes w u)
      → FetchesMember HEAD_LIMIT asked start known (Err fault) w u
  output_stopped h faults.Write known before after is c k = k
  output_stopped h (faults.Capture (Archive f)) known before after is c k = absurd cc
  output_stopped h fault known before after is c k = grind arith

  pub nothing_there : (known : Option (List ℕ)) → IfSome known (λ bytes. HoldsNone HEAD_LIMIT bytes asked)
      → FetchesMember HEAD_LIMIT asked start known (Err faults.NoRecord) w w
  nothing_there None h = tt
  nothing_there (Some bytes) h = (h, writes_nothing bytes w)

  pub fault_there : (f : Fault) (known : Option (List ℕ)) → f.offset ≡ start
      → IfSome known (λ bytes. IsMemberFault HEAD_LIMIT bytes f.cause)
      → FetchesMember HEAD_LIMIT asked start known (Err (faults.Capture (Archive f))) w w
  fault_there f None at h = (at, tt)
  fault_there f (Some bytes) at h = (at, (h, writes_nothing bytes w))

-- what holds where nothing is known, and of known bytes
pub by_known : (P : List ℕ → Type 0) (Q : Option (List ℕ) → Type 0) (known : Option (List ℕ)) → Q None
    → ((bytes : List ℕ) → P bytes → Q (Some bytes)) → IfSome known P → Q known
by_known P Q None none some k = none
by_known P Q (Some bytes) none some k = some bytes k

-- a failure of the input is counted with the record's cause
pub counted_in : (fault : IndexFault) (cause : Cause) (old mid : ℕ) → cause_in fault ≡ Some cause
    → CountsIndex {A = ℕ} (Err fault) old mid → CountsRead {A = Unit {0}} (Err cause) old mid
counted_in (faults.Capture (Archive f)) cause old mid is c =
    let same : f.cause ≡ cause = grind arith in
    subst (λ d. CountsRead {A = Unit {0}} (Err d) old mid) same c
counted_in fault cause old mid is c = absurd (grind arith)

-- ---- a member is begun, or none

pub near_known : (old : Taken) (P : List ℕ → Type 0) → IfSome (file_ahead old) P
    → IfSome (file_ahead old) (λ bytes. (old.passed + length bytes ≤ 2 ^ 63 - 1) × P bytes)
near_known old P k = from (file_ahead old) refl k
  where
    from : (known : Option (List ℕ)) → file_ahead old ≡ known → IfSome known P
        → IfSome known (λ bytes. (old.passed + length bytes ≤ 2 ^ 63 - 1) × P bytes)
    from None e k = tt
    from (Some bytes) e k = ((within_known old.passed old.ahead bytes e).1, k)

pub none_begun : (asked : Option ℕ) (old : Taken) (left : Option Left) → IsBegun old (Ok false) left
    → IfSome (file_ahead old) (λ bytes. HoldsNone HEAD_LIMIT bytes asked)
none_begun asked old left b = some_known (file_ahead old) λ bytes e.
    let k = within_known old.passed old.ahead bytes e in
    inl (ap begins_member (b bytes k.0 k.1))

pub not_begun_at : (asked : Option ℕ) (old : Taken) (left : Option Left) (fault : MemberFault) (w : Option (List ℕ))
    → IsBegun old (Err fault) left
    → FetchesMember HEAD_LIMIT asked old.passed (file_ahead old) (Err (not_begun old.passed fault)) w w
not_begun_at asked old left members.NoMember w b =
    nothing_there asked old.passed w w (file_ahead old) (some_known (file_ahead old) λ bytes e.
    let k = within_known old.passed old.ahead bytes e in inr (inl (b bytes k.0 k.1)))
not_begun_at asked old left members.Read w b =
    fault_there asked old.passed w w _ (file_ahead old) refl (some_known (file_ahead old) λ bytes e. inr (inl refl))
not_begun_at asked old left members.Bad w b =
    fault_there asked old.passed w w _ (file_ahead old) refl (some_known (file_ahead old) λ bytes e.
    let k = within_known old.passed old.ahead bytes e in
    let s = b bytes k.0 k.1 in inr (inr (inl (s.0, holds_fault HEAD_LIMIT bytes _ s.1))))
not_begun_at asked old left members.Cut w b =
    fault_there asked old.passed w w _ (file_ahead old) refl (some_known (file_ahead old) λ bytes e.
    let k = within_known old.passed old.ahead bytes e in
    elim (b bytes k.0 k.1) [
      | inl s ↦ inr (inr (inr (s, refl)))
      | inr s ↦ inr (inr (inl (s.0, holds_fault HEAD_LIMIT bytes _ s.1)))
    ])
not_begun_at asked old left members.TooFar w b =
    fault_there asked old.passed w w _ (file_ahead old) refl (some_known (file_ahead old) λ bytes e.
    let k = within_known old.passed old.ahead bytes e in absurd (b bytes k.0 k.1))
not_begun_at asked old left members.TooLong w b =
    fault_there asked old.passed w w _ (file_ahead old) refl (some_known (file_ahead old) λ bytes e.
    let k = within_known old.passed old.ahead bytes e in absurd (b bytes k.0 k.1))

pub past_end : (asked : Option ℕ) (offset : ℕ) (known : Option (List ℕ))
    → IfSome known (λ archive. drop offset archive ≡ [])
    → IfSome (option_map (drop offset) known) (λ bytes. HoldsNone HEAD_LIMIT bytes asked)
past_end asked offset None k = tt
past_end asked offset (Some archive) k = inl (ap begins_member k)
