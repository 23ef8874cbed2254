-- A compressed archive is members, each of which has no text or is one record.
use Rattle.index_core.proofs.Words.{◌≡◌, ◌∙◌, ℕ, ◌+◌, ◌-◌, List, [], ◌∷◌, ◌++◌, None, Some, Result, Ok, Err}
use Rattle.index_core.proofs.Words.{ap, append-nil, append_assoc, arith, inl, inr, length, length-append, refl, subst, sym, Cause, HeadView}
use Rattle.gzip_members.specs.Laws.{AreMembers, BeginsNone, IsMember, IsOfMembers, in_a_row}
use Rattle.gzip_members.proofs.RowLemmas.{begins_more, some_list}
use Rattle.gzip_members.proofs.StayLemmas.{member_followed}
use Rattle.warc_core.specs.Walk.{record_at}
use Rattle.archives.specs.Form.{Stored, WalksOver}
use Rattle.archives.specs.Packed.{Held, held_by, held_in, held_with, member_holds, packed, packed_record}
use Rattle.archives.proofs.MemberLemmas.{holds_fault}
use Rattle.archives.proofs.PackedLemmas.{packed_begins_none, packed_ends, packed_fails, packed_passes, packed_reads}
use Rattle.index_core.specs.MemberLaws.{HoldRecords, MembersArePacked, PackedIsMembers, record_in}

-- ---- what members hold

-- what a text holds, by what its member does
with_more : (more : List ℕ) (r : Result Held Cause) (held : Held) (behind : List ℕ)
    → held_with [] r ≡ Ok (held, behind) → (held_with more r ≡ Ok (held, more)) × (behind ≡ [])
with_more more (Ok h) held behind e = (grind arith, grind arith)
with_more more (Err c) held behind e = absurd cc

with_fault : (more : List ℕ) (r : Result Held Cause) (c : Cause) → held_with [] r ≡ Err c → held_with more r ≡ Err c
with_fault more (Ok h) c e = absurd cc
with_fault more (Err d) c e = (let same : d ≡ c = grind arith in ap (λ x. Err x) same)

module _ (limit : ℕ) where
  held : List ℕ → Result Held Cause
  held text = held_by text (record_at limit 0 text)

  alone : (member text : List ℕ) → IsMember member text → member_holds limit member ≡ held_with [] (held text)
  unfolding member_holds held
  alone member text is = ap (held_in limit) is.reads

  followed : (member more text : List ℕ) → IsMember member text → member_holds limit (member ++ more) ≡ held_with more (held text)
  unfolding member_holds held
  followed member more text is = ap (held_in limit) (member_followed member more text is)

  -- a member holds the same, whatever is behind it
  holds_more : (member more text : List ℕ) (h : Held) (behind : List ℕ) → IsMember member text
      → member_holds limit member ≡ Ok (h, behind) → (member_holds limit (member ++ more) ≡ Ok (h, more)) × (behind ≡ [])
  holds_more member more text h behind is e =
      let p = with_more more (held text) h behind (sym (alone member text is) ∙ e) in
      (followed member more text is ∙ p.0, p.1)

  fails_more : (member more text : List ℕ) (c : Cause) → IsMember member text → member_holds limit member ≡ Err c
      → member_holds limit (member ++ more) ≡ Err c
  fails_more member more text c is e =
      followed member more text is ∙ with_fault more (held text) c (sym (alone member text is) ∙ e)

  -- ---- what comes next

  empty_next : (offset : ℕ) (member more text : List ℕ) → IsMember member text → member_holds limit member ≡ Ok (None, [])
      → (packed limit).next offset (member ++ more) ≡ (packed limit).next (offset + length member) more
  empty_next offset member more text is e =
      let size : length (member ++ more) - length more ≡ length member = omega (arith, length-append member more) in
      packed_passes limit offset (member ++ more) more (begins_more member more is.begins) (holds_more member more text None [] is e).0
      ∙ ap (λ n. (packed limit).next (offset + n) more) size

  record_next : (offset : ℕ) (member more text : List ℕ) (h : HeadView) (t : List ℕ) → IsMember member text
      → member_holds limit member ≡ Ok (Some (h, t), [])
      → (packed limit).next offset (member ++ more) ≡ Ok (Some (packed_record offset member h t []), more)
  record_next offset member more text h t is e =
      let size : length (member ++ more) - length more ≡ length member - 0 = omega (arith, length-append member more) in
      packed_reads limit offset (member ++ more) h t more (begins_more member more is.begins)
      (holds_more member more text (Some (h, t)) [] is e).0
      ∙ ap (λ n. Ok (Some (record (packed_record offset member h t []) { place = record { offset = offset; length = n } }), more)) size

  -- records from an offset on, up to the end
  abbrev Consists : ℕ → List ℕ → List Stored → Type 0
  Consists offset bytes records = (end : ℕ) × (rest : List ℕ) × WalksOver (packed limit) offset bytes records end rest
      × ((packed limit).next end rest ≡ Ok (None, []))

  -- from where the same comes next
  from_there : (offset other : ℕ) (bytes more : List ℕ) (records : List Stored)
      → (packed limit).next offset bytes ≡ (packed limit).next other more → Consists other more records
      → Consists offset bytes records
  from_there offset other bytes more [] same (end, rest, (at, is), e) = (
    offset,
    bytes,
    (refl, refl),
    same ∙ ap (λ n. (packed limit).next n more) (sym at) ∙ ap (λ l. (packed limit).next end l) (sym is) ∙ e,
  )
  from_there offset other bytes more (r ∷ records) same (end, rest, (later, next, w), e) =
      (end, rest, (later, same ∙ next, w), e)

  -- ---- from members to records

  by_held : (offset : ℕ) (member more text : List ℕ) (h : Held) (others : List Stored) → IsMember member text
      → member_holds limit member ≡ Ok (h, []) → Consists (offset + length member) more others
      → Consists offset (member ++ more) (record_in offset member h ++ others)
  by_held offset member more text None others is e c =
      from_there offset (offset + length member) (member ++ more) more others (empty_next offset member more text is e) c
  by_held offset member more text (Some (h, t)) others is e (end, rest, w, last) =
      let size : offset + length member ≡ offset + (length member - 0) = omega arith in
      let from = subst (λ n. WalksOver (packed limit) n more others end rest) size w in
      (end, rest, (more, record_next offset member more text h t is e, from), last)

  to_records : (offset : ℕ) (members : List (List ℕ)) (records : List Stored) → AreMembers members
      → HoldRecords limit offset members records → Consists offset (in_a_row members) records
  to_records offset [] records are none = (offset, [], subst (λ rs. WalksOver (packed limit) offset [] rs offset []) (sym none) (refl, refl), packed_ends limit offset [] refl)
  to_records offset (member ∷ members) records ((text, is), are) (h, others, e, all, hold) =
      subst (Consists offset (member ++ in_a_row members)) (sym all)
      (by_held offset member (in_a_row members) text h others is e
      (to_records (offset + length member) members others are hold))

  -- ---- from records to members

  -- nothing comes next where no member begins, unless the archive ends
  none_next : (offset : ℕ) (rest : List ℕ) (records : List Stored) → BeginsNone rest → Consists offset rest records
      → (rest ≡ []) × (records ≡ [])
  none_next offset rest [] (inl e) c = (e, refl)
  none_next offset rest (r ∷ records) (inl e) (end, left, (later, next, w), last) =
      absurd (let k = sym (ap (λ l. (packed limit).next offset l) e ∙ packed_ends limit offset [] refl) ∙ next in grind arith)
  none_next offset rest [] (inr (inl (fault, e))) (end, left, (at, is), last) =
      absurd (let k = sym (packed_begins_none limit offset rest fault e)
      ∙ (ap (λ n. (packed limit).next n rest) (sym at) ∙ (ap (λ l. (packed limit).next end l) (sym is) ∙ last)) in cc)
  none_next offset rest (r ∷ records) (inr (inl (fault, e))) (end, left, (later, next, w), last) =
      absurd (let k = sym (packed_begins_none limit offset rest fault e) ∙ next in cc)
  none_next offset rest [] (inr (inr (fault, begins, e))) (end, left, (at, is), last) =
      absurd (let k = sym (packed_fails limit offset rest _ begins (holds_fault limit rest fault e))
      ∙ (ap (λ n. (packed limit).next n rest) (sym at) ∙ (ap (λ l. (packed limit).next end l) (sym is) ∙ last)) in cc)
  none_next offset rest (r ∷ records) (inr (inr (fault, begins, e))) (end, left, (later, next, w), last) =
      absurd (let k = sym (packed_fails limit offset rest _ begins (holds_fault limit rest fault e)) ∙ next in cc)

  abbrev Splits : ℕ → List (List ℕ) → List ℕ → List Stored → Type 0
  Splits offset members rest records = (rest ≡ []) × HoldRecords limit offset members records

  -- a member that holds nothing, or a record, or is at fault
  by_first : (offset : ℕ) (member : List ℕ) (members : List (List ℕ)) (rest text : List ℕ) (records : List Stored)
      (x : Result (Held × List ℕ) Cause) → IsMember member text → member_holds limit member ≡ x
      → ((others : List Stored) → Consists (offset + length member) (in_a_row members ++ rest) others
      → Splits (offset + length member) members rest others)
      → Consists offset (member ++ (in_a_row members ++ rest)) records → Splits offset (member ∷ members) rest records
  by_first offset member members rest text records (Ok (None, behind)) is e more c =
      let after = in_a_row members ++ rest in
      let none : behind ≡ [] = (holds_more member after text None behind is e).1 in
      let empty : member_holds limit member ≡ Ok (None, []) = e ∙ ap (λ (l : List ℕ). Ok (None, l)) none in
      let p = more records (from_there (offset + length member) offset after (member ++ after) records
      (sym (empty_next offset member after text is empty)) c) in
      (p.0, (None, records, empty, refl, p.1))
  by_first offset member members rest text [] (Ok (Some (h, t), behind)) is e more (end, left, (at, same), last) =
      let after = in_a_row members ++ rest in
      let none : behind ≡ [] = (holds_more member after text (Some (h, t)) behind is e).1 in
      let one : member_holds limit member ≡ Ok (Some (h, t), []) = e ∙ ap (λ (l : List ℕ). Ok (Some (h, t), l)) none in
      absurd (let k = sym (record_next offset member after text h t is one)
      ∙ (ap (λ n. (packed limit).next n (member ++ after)) (sym at) ∙ (ap (λ l. (packed limit).next end l) (sym same) ∙ last)) in grind arith)
  by_first offset member members rest text (r ∷ records) (Ok (Some (h, t), behind)) is e more (end, left, (later, next, w), last) =
      let after = in_a_row members ++ rest in
      let none : behind ≡ [] = (holds_more member after text (Some (h, t)) behind is e).1 in
      let one : member_holds limit member ≡ Ok (Some (h, t), []) = e ∙ ap (λ (l : List ℕ). Ok (Some (h, t), l)) none in
      let this = packed_record offset member h t [] in
      let both = sym next ∙ record_next offset member after text h t is one in
      let first : r ≡ this = grind arith in
      let follows : later ≡ after = grind arith in
      let size : offset + (length member - 0) ≡ offset + length member = omega arith in
      let from : WalksOver (packed limit) (offset + length member) after records end left =
      subst (λ n. WalksOver (packed limit) n after records end left) size
      (subst (λ l. WalksOver (packed limit) (offset + (length member - 0)) l records end left) follows
      (subst (λ (x : Stored). WalksOver (packed limit) (x.place.offset + x.place.length) later records end left) first w)) in
      let p = more records (end, left, from, last) in
      (p.0, (Some (h, t), records, one, ap (λ x. x ∷ records) first, p.1))
  by_first offset member members rest text [] (Err c) is e more (end, left, (at, same), last) =
      let after = in_a_row members ++ rest in
      absurd (let k = sym (packed_fails limit offset (member ++ after) c (begins_more member after is.begins) (fails_more member after text c is e))
      ∙ (ap (λ n. (packed limit).next n (member ++ after)) (sym at) ∙ (ap (λ l. (packed limit).next end l) (sym same) ∙ last)) in cc)
  by_first offset member members rest text (r ∷ records) (Err c) is e more (end, left, (later, next, w), last) =
      let after = in_a_row members ++ rest in
      absurd (let k = sym (packed_fails limit offset (member ++ after) c (begins_more member after is.begins) (fails_more member after text c is e)) ∙ next in cc)

  to_members : (offset : ℕ) (members : List (List ℕ)) (rest : List ℕ) (records : List Stored) → AreMembers members → BeginsNone rest
      → Consists offset (in_a_row members ++ rest) records → Splits offset members rest records
  to_members offset [] rest records are none c = none_next offset rest records none c
  to_members offset (member ∷ members) rest records ((text, is), are) none c =
      by_first offset member members rest text records (member_holds limit member) is refl
      (λ others d. to_members (offset + length member) members rest others are none d)
      (subst (λ l. Consists offset l records) (append_assoc member (in_a_row members) rest) c)

pub members_are_packed : MembersArePacked
members_are_packed limit archive records members of hold =
    let c = to_records limit 0 members records of.whole hold in
    let same : in_a_row members ≡ archive = sym (append-nil (in_a_row members)) ∙ sym of.spelled in
    record { end = c.0; rest = c.1; walks = subst (λ l. WalksOver (packed limit) 0 l records c.0 c.1) same c.2; ended = c.3 }

pub packed_is_members : PackedIsMembers
packed_is_members limit archive records consists =
    let s = some_list archive in
    let p = to_members limit 0 s.0 s.1 records s.2.whole s.2.none
    (subst (λ l. Consists limit 0 l records) s.2.spelled (consists.end, consists.rest, consists.walks, consists.ended)) in
    (s.0, subst (IsOfMembers archive s.0) p.0 s.2, p.1)
