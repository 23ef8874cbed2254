-- Compressed archives: what comes next in them is the record of the first member that isn't empty.
use Rattle.archives.proofs.Words.{◌≡◌, ℕ, ◌+◌, ◌-◌, ◌<◌, ◌≤◌, Bool, List, [], ◌∷◌, None, Some, Option, Result}
use Rattle.archives.proofs.Words.{Ok, Err}
use Rattle.archives.proofs.Words.{Cause, HeadView, arith, ap, length, read-spelled, refl}
use Rattle.archives.proofs.Words.{subst, ◌∙◌}
use Rattle.std.proofs.Common.{zero, suc, true, false}
use Rattle.deflate_bits.specs.declared.fault.DeflateFault.{DeflateFault}
use Rattle.gzip_members.specs.declared.fault.MemberFault.{MemberFault}
use Rattle.gzip_members.specs.Members.{member_in}
use Rattle.gzip_members.specs.Starts.{begins_member}
use Rattle.warc_core.specs.Walk.{record_at}
use Rattle.capture_core.specs.declared.place.Place.{Place}
use Rattle.archives.specs.Form.{IsLawful}
use Rattle.archives.specs.Packed.{Found, Held, held_by, held_in, held_with, member_cause, member_holds, packed}
use Rattle.archives.specs.Packed.{packed_at, packed_next, packed_record, packed_within}
use Rattle.archives.proofs.MemberLengths.{member_less}

module _ (limit : ℕ) where
  -- ---- what a member holds

  held_less : (bytes : List ℕ) (m : Result (List ℕ × List ℕ) DeflateFault) → member_in bytes ≡ m → (held : Held)
      (behind : List ℕ) → held_in limit m ≡ Ok (held, behind) → length behind < length bytes
  held_less bytes (Ok (text, rest)) is held behind e = less (held_by text (record_at limit 0 text)) e
    where
      less : (r : Result Held Cause) → held_with rest r ≡ Ok (held, behind) → length behind < length bytes
      less (Ok h) k =
          let same : rest ≡ behind = grind arith in
          rw (← same) (member_less bytes text rest is)
      less (Err c) k = absurd cc
  held_less bytes (Err fault) is held behind e = absurd cc

  pub holds_less : (bytes : List ℕ) (held : Held) (behind : List ℕ) → member_holds limit bytes ≡ Ok (held, behind)
      → length behind < length bytes
  unfolding member_holds
  holds_less bytes held behind e = held_less bytes (member_in bytes) refl held behind e

  head_by : (text : List ℕ) (h : HeadView) (t : List ℕ) (r : Result (Option HeadView × List ℕ) Cause)
      → held_by text r ≡ Ok (Some (h, t)) → (r ≡ Ok (Some h, [])) × (t ≡ text)
  head_by text h t (Ok (None, more)) e = absurd cc
  head_by text h t (Ok (Some g, [])) e = grind arith
  head_by text h t (Ok (Some g, b ∷ more)) e = absurd cc
  head_by text h t (Err c) e = absurd cc

  held_start : (m : Result (List ℕ × List ℕ) DeflateFault) (h : HeadView) (t behind : List ℕ)
      → held_in limit m ≡ Ok (Some (h, t), behind) → h.start ≡ 0
  held_start (Ok (text, rest)) h t behind e = by_held (held_by text (record_at limit 0 text)) refl e
    where
      by_held : (r : Result Held Cause) → held_by text (record_at limit 0 text) ≡ r
          → held_with rest r ≡ Ok (Some (h, t), behind) → h.start ≡ 0
      by_held (Ok held) is k =
          let same : held ≡ Some (h, t) = grind arith in
          let p = head_by text h t (record_at limit 0 text) (is ∙ ap (λ x. Ok x) same) in
          let s = read-spelled limit 0 text [] h p.0 in
          s.2.start_is
      by_held (Err c) is k = absurd cc
  held_start (Err fault) h t behind e = absurd cc

  pub holds_start : (bytes : List ℕ) (h : HeadView) (text behind : List ℕ)
      → member_holds limit bytes ≡ Ok (Some (h, text), behind) → h.start ≡ 0
  unfolding member_holds
  holds_start bytes h text behind e = held_start (member_in bytes) h text behind e

  -- ---- enough members

  same_next : (more other : ℕ → List ℕ → Found) (offset : ℕ) (bytes : List ℕ) (r : Result (Held × List ℕ) Cause)
      → member_holds limit bytes ≡ r
      → ((o : ℕ) (l : List ℕ) → length l < length bytes → more o l ≡ other o l)
      → packed_next more offset bytes r ≡ packed_next other offset bytes r
  same_next more other offset bytes (Ok (None, behind)) is same =
      same (offset + (length bytes - length behind)) behind (holds_less bytes None behind is)
  same_next more other offset bytes (Ok (Some (h, text), behind)) is same = refl
  same_next more other offset bytes (Err c) is same = refl

  same_at : (more other : ℕ → List ℕ → Found) (offset : ℕ) (bytes : List ℕ) (b : Result Bool MemberFault)
      → ((o : ℕ) (l : List ℕ) → length l < length bytes → more o l ≡ other o l)
      → packed_at more limit offset bytes b ≡ packed_at other limit offset bytes b
  same_at more other offset bytes (Ok false) same = refl
  same_at more other offset bytes (Ok true) same =
      same_next more other offset bytes (member_holds limit bytes) refl same
  same_at more other offset bytes (Err fault) same = refl

  -- more members than there are bytes change nothing
  pub enough : (n m offset : ℕ) (bytes : List ℕ) → length bytes < n → length bytes < m
      → packed_within limit n offset bytes ≡ packed_within limit m offset bytes
  unfolding packed_within
  enough zero m offset bytes h k = absurd (omega arith)
  enough (suc n) zero offset bytes h k = absurd (omega arith)
  enough (suc n) (suc m) offset bytes h k =
      same_at (packed_within limit n) (packed_within limit m) offset bytes (begins_member bytes)
      (λ o l less. enough n m o l (omega arith) (omega arith))

  -- ---- what comes next

  next_is : (offset : ℕ) (bytes : List ℕ)
      → (packed limit).next offset bytes
      ≡ packed_at (packed_within limit (length bytes)) limit offset bytes (begins_member bytes)
  unfolding packed packed_within
  next_is offset bytes = refl

  within_is : (n offset : ℕ) (bytes : List ℕ) → length bytes < n
      → packed_within limit n offset bytes ≡ (packed limit).next offset bytes
  unfolding packed
  within_is n offset bytes h = enough n (suc (length bytes)) offset bytes h (omega arith)

  -- the archive ends there
  pub packed_ends : (offset : ℕ) (bytes : List ℕ) → begins_member bytes ≡ Ok false
      → (packed limit).next offset bytes ≡ Ok (None, [])
  packed_ends offset bytes e =
      next_is offset bytes ∙ ap (packed_at (packed_within limit (length bytes)) limit offset bytes) e

  -- no member begins there
  pub packed_begins_none : (offset : ℕ) (bytes : List ℕ) (fault : MemberFault) → begins_member bytes ≡ Err fault
      → (packed limit).next offset bytes ≡ Err (record { offset = offset; cause = member_cause fault })
  packed_begins_none offset bytes fault e =
      next_is offset bytes ∙ ap (packed_at (packed_within limit (length bytes)) limit offset bytes) e

  held_next : (offset : ℕ) (bytes : List ℕ) (r : Result (Held × List ℕ) Cause) → begins_member bytes ≡ Ok true
      → member_holds limit bytes ≡ r
      → (packed limit).next offset bytes ≡ packed_next (packed_within limit (length bytes)) offset bytes r
  held_next offset bytes r e is =
      next_is offset bytes ∙ ap (packed_at (packed_within limit (length bytes)) limit offset bytes) e
      ∙ ap (packed_next (packed_within limit (length bytes)) offset bytes) is

  -- the member there is at fault, or what it holds
  pub packed_fails : (offset : ℕ) (bytes : List ℕ) (c : Cause) → begins_member bytes ≡ Ok true
      → member_holds limit bytes ≡ Err c
      → (packed limit).next offset bytes ≡ Err (record { offset = offset; cause = c })
  packed_fails offset bytes c e is = held_next offset bytes (Err c) e is

  -- the member there holds a record
  pub packed_reads : (offset : ℕ) (bytes : List ℕ) (h : HeadView) (text behind : List ℕ)
      → begins_member bytes ≡ Ok true → member_holds limit bytes ≡ Ok (Some (h, text), behind)
      → (packed limit).next offset bytes ≡ Ok (Some (packed_record offset bytes h text behind), behind)
  packed_reads offset bytes h text behind e is = held_next offset bytes (Ok (Some (h, text), behind)) e is

  -- the member there is empty
  pub packed_passes : (offset : ℕ) (bytes behind : List ℕ) → begins_member bytes ≡ Ok true
      → member_holds limit bytes ≡ Ok (None, behind)
      → (packed limit).next offset bytes
      ≡ (packed limit).next (offset + (length bytes - length behind)) behind
  packed_passes offset bytes behind e is = held_next offset bytes (Ok (None, behind)) e is
      ∙ within_is (length bytes) (offset + (length bytes - length behind)) behind (holds_less bytes None behind is)

  -- ---- what every form owes

  -- what was found from an offset on
  abbrev IsFine : ℕ → List ℕ → Found → Type 0
  IsFine offset bytes (Ok (Some r, rest)) = (offset ≤ r.place.offset) × (r.head.start ≡ 0) × (0 < r.place.length)
      × (length rest < length bytes)
  IsFine offset bytes (Ok (None, rest)) = rest ≡ []
  IsFine offset bytes (Err f) = offset ≤ f.offset

  fine_further : (offset o : ℕ) (bytes l : List ℕ) (r : Found) → offset ≤ o → length l < length bytes → IsFine o l r
      → IsFine offset bytes r
  fine_further offset o bytes l (Ok (Some r, rest)) h k f = (omega (arith, f.0), f.1, f.2, omega (arith, f.3))
  fine_further offset o bytes l (Ok (None, rest)) h k f = f
  fine_further offset o bytes l (Err fault) h k f = omega arith

  fine_next : (more : ℕ → List ℕ → Found) (offset : ℕ) (bytes : List ℕ) (r : Result (Held × List ℕ) Cause)
      → member_holds limit bytes ≡ r → ((o : ℕ) (l : List ℕ) → IsFine o l (more o l))
      → IsFine offset bytes (packed_next more offset bytes r)
  fine_next more offset bytes (Ok (None, behind)) is fine =
      let o = offset + (length bytes - length behind) in
      let less = holds_less bytes None behind is in
      fine_further offset o bytes behind (more o behind) (omega arith) less (fine o behind)
  fine_next more offset bytes (Ok (Some (h, text), behind)) is fine =
      let less = holds_less bytes (Some (h, text)) behind is in
      (omega arith, holds_start bytes h text behind is, omega arith, less)
  fine_next more offset bytes (Err c) is fine = omega arith

  fine_at : (more : ℕ → List ℕ → Found) (offset : ℕ) (bytes : List ℕ) (b : Result Bool MemberFault)
      → ((o : ℕ) (l : List ℕ) → IsFine o l (more o l)) → IsFine offset bytes (packed_at more limit offset bytes b)
  fine_at more offset bytes (Ok false) fine = refl
  fine_at more offset bytes (Ok true) fine = fine_next more offset bytes (member_holds limit bytes) refl fine
  fine_at more offset bytes (Err fault) fine = omega arith

  fine : (n offset : ℕ) (bytes : List ℕ) → IsFine offset bytes (packed_within limit n offset bytes)
  unfolding packed_within
  fine zero offset bytes = refl
  fine (suc n) offset bytes = fine_at (packed_within limit n) offset bytes (begins_member bytes) (fine n)

  -- by what was found
  packed_fine : (offset : ℕ) (bytes : List ℕ) (r : Found) → (packed limit).next offset bytes ≡ r
      → IsFine offset bytes r
  unfolding packed
  packed_fine offset bytes r e = subst (IsFine offset bytes) e (fine (suc (length bytes)) offset bytes)

  pub packed_follows : (from to : ℕ) → from ≤ to → (packed limit).Follows from to
  unfolding packed
  packed_follows from to h = h

  pub packed_onward : (from to : ℕ) → (packed limit).Follows from to → from ≤ to
  unfolding packed
  packed_onward from to h = h

  pub packed_stand : (h : HeadView) (place : Place) → h.start ≡ 0 → (packed limit).MayStand h place
  unfolding packed
  packed_stand h place e = e

  -- compressed archives keep the laws
  pub packed_lawful : IsLawful (packed limit)
  packed_lawful = record {
    here = λ offset. packed_follows offset offset (omega arith);
    further = λ from mid to a b.
        let p = packed_onward from mid a in
        let q = packed_onward mid to b in
        packed_follows from to (omega arith);
    onward = packed_onward;
    found = λ offset bytes rest r e.
        packed_follows offset r.place.offset (packed_fine offset bytes (Ok (Some r, rest)) e).0;
    stands = λ offset bytes rest r e. packed_stand r.head r.place (packed_fine offset bytes (Ok (Some r, rest)) e).1;
    filled = λ offset bytes rest r e. (packed_fine offset bytes (Ok (Some r, rest)) e).2;
    fewer = λ offset bytes rest r e. (packed_fine offset bytes (Ok (Some r, rest)) e).3;
    ended = λ offset bytes rest e. packed_fine offset bytes (Ok (None, rest)) e;
    failed = λ offset bytes f e. packed_follows offset f.offset (packed_fine offset bytes (Err f) e);
  }
