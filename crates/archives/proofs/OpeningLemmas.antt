-- What the members of a compressed archive hold, as they are read.
use Rattle.archives.proofs.Words.{◌≡◌, ◌⊎◌, ℕ, ◌+◌, ◌-◌, ◌^◌, ◌<◌, ◌≤◌, Bool, List, [], ◌∷◌, ◌++◌, None, Some}
use Rattle.archives.proofs.Words.{Option, Result}
use Rattle.archives.proofs.Words.{Ok, Err, IfSome, Cause, Fault, HEAD_LIMIT, HeadView, Reads, arith, ap, inl}
use Rattle.archives.proofs.Words.{inr, length, refl, sym, ◌∙◌}
use Rattle.archives.proofs.Words.{prepend_known, record-stopped}
use Rattle.std.proofs.Common.{IfErr, IfOk, true, false, nat_lt, option_map, subst}
use Rattle.std.specs.Bool.{if◌then◌else◌}
use Rattle.std.proofs.lemmas.Bool.{lt-ltb}
use Rattle.std.specs.Prelude.{◌||◌}
use Rattle.deflate_bits.specs.declared.fault.DeflateFault.{DeflateFault}
use Rattle.gzip_members.specs.Faults.{member_fault}
use Rattle.gzip_members.specs.Left.{behind_of, text_of}
use Rattle.gzip_members.specs.Members.{member_in}
use Rattle.gzip_members.specs.Reading.{Moves, Taken, total_of}
use Rattle.gzip_members.specs.Starts.{begins_member}
use Rattle.warc_core.proofs.WalkLemmas.{record-end}
use Rattle.warc_core.specs.declared.fault.Cause.TheVariants as causes
use Rattle.warc_core.specs.Answers.{causes_of}
use Rattle.warc_core.specs.Next.{next_at}
use Rattle.warc_core.specs.Reading.{IsPossibleCause}
use Rattle.warc_core.specs.Walk.{record_at}
use Rattle.archives.specs.declared.member_opening.Opening.{Opening}
use Rattle.archives.specs.declared.member_opening.Opening.TheVariants.{Empty, End, Record}
use Rattle.archives.specs.Form.{IsPossibleFault}
use Rattle.archives.specs.Packed.{Held, held_by, held_in, held_with, member_cause, member_holds, packed}
use Rattle.archives.specs.MemberReading.{Left, closed_by, file_ahead, ClosesTo}
use Rattle.archives.specs.MemberReading.{OpensMember, ReadsOn, StartsMember}
use Rattle.archives.proofs.MemberLemmas.{total_known, within_is}
use Rattle.archives.proofs.PackedLemmas.{holds_less, packed_fails, packed_follows, packed_passes}

-- what was found in a text
abbrev pub found_of : Result (Option HeadView) Cause → Result Bool Cause
found_of (Ok (Some h)) = Ok true
found_of (Ok None) = Ok false
found_of (Err c) = Err c

-- what is behind a member, or why it holds nothing
abbrev pub behind_in : Result (Held × List ℕ) Cause → Result (List ℕ) Cause
behind_in (Ok (held, behind)) = Ok behind
behind_in (Err c) = Err c

closed_fault : (found : Result Bool Cause) (holds : Bool) (d : DeflateFault)
    → closed_by found holds (Err d) ≡ Err (member_cause (member_fault d))
closed_fault (Ok true) holds d = refl
closed_fault (Ok false) holds d = refl
closed_fault (Err c) holds d = refl

-- the text behind a record, of which some is held
some_behind : (held text : List ℕ)
    → (nat_lt 0 (length held) || nat_lt 0 (length text)) ≡ nat_lt 0 (length (held ++ text))
some_behind [] text = refl
some_behind (b ∷ held) text =
    ap (λ (v : Bool). v || nat_lt 0 (length text)) (lt-ltb 0 (length (b ∷ held)) (omega arith))
    ∙ sym (lt-ltb 0 (length (b ∷ held ++ text)) (omega arith))

held_behind : (h : HeadView) (text more behind : List ℕ)
    → (if nat_lt 0 (length more) then Err causes.SeveralRecords else Ok behind)
    ≡ behind_in (held_with behind (held_by text (Ok (Some h, more))))
held_behind h text [] behind = refl
held_behind h text (b ∷ more) behind =
    ap (λ (v : Bool). if v then Err causes.SeveralRecords else Ok behind)
    (lt-ltb 0 (length (b ∷ more)) (omega arith))

module _ (held : List ℕ) (A : Type 0) (r : Result A Cause) (ahead : Option (List ℕ)) where
  abbrev Closes : Result (List ℕ) Cause → Type 0
  Closes closed = ClosesTo closed r ahead

  -- a cause that may be another than what the text gives
  closes_possible : (c : Cause) (other : Result (List ℕ) Cause) → (c ≡ causes.Memory) ⊎ (c ≡ causes.Read)
      → Closes (Err c) → Closes other
  closes_possible c other p k = grind arith

  holds_text : (read : Result (Option HeadView) Cause) (text behind more later : List ℕ) → later ≡ behind
      → Reads (record_at HEAD_LIMIT 0) read (Some text) (Some (held ++ more))
      → Closes (closed_by (found_of read) (nat_lt 0 (length held)) (Ok (more, later)))
      → Closes (behind_in (held_with behind (held_by text (record_at HEAD_LIMIT 0 text))))
  holds_text (Ok None) text behind more later same e k = grind arith
  holds_text (Ok (Some h)) text behind more later same e k =
      let several = ap (λ (b : Bool). if b then Err causes.SeveralRecords else Ok later) (some_behind held more) in
      let shut = held_behind h text (held ++ more) behind in
      let as_read = ap (λ x. behind_in (held_with behind (held_by text x))) (sym e) in
      let last = ap (λ (l : List ℕ).
      if nat_lt 0 (length (held ++ more)) then Err causes.SeveralRecords else Ok l) same in
      subst Closes (several ∙ last ∙ shut ∙ as_read) k
  holds_text (Err c) text behind more later same (inl memory) k = closes_possible c _ (inl memory) k
  holds_text (Err c) text behind more later same (inr (inl input)) k = closes_possible c _ (inr input) k
  holds_text (Err c) text behind more later same (inr (inr e)) k =
      subst Closes (ap (λ x. behind_in (held_with behind (held_by text x))) (sym e)) k

  -- a member was closed as what it holds says
  holds_closed : (read : Result (Option HeadView) Cause) (m l : Left) → behind_of l ≡ behind_of m
      → Reads (record_at HEAD_LIMIT 0) read (text_of (Some m)) (prepend_known held (text_of (Some l)))
      → Closes (closed_by (found_of read) (nat_lt 0 (length held)) l) → Closes (behind_in (held_in HEAD_LIMIT m))
  holds_closed read (Ok (text, behind)) (Ok (more, later)) same e k =
      holds_text read text behind more later (grind arith) e k
  holds_closed read (Ok (text, behind)) (Err d) same e k = absurd cc
  holds_closed read (Err d) (Ok (more, later)) same e k = absurd cc
  holds_closed read (Err d) (Err other) same e k =
      let d_is : other ≡ d = grind arith in
      subst Closes (closed_fault (found_of read) (nat_lt 0 (length held)) other
      ∙ ap (λ x. Err (member_cause (member_fault x))) d_is) k

  pub member_closed : (bytes : List ℕ) (read : Result (Option HeadView) Cause) (left : Option Left)
      → option_map behind_of left ≡ Some (behind_of (member_in bytes))
      → Reads (record_at HEAD_LIMIT 0) read (text_of (Some (member_in bytes))) (prepend_known held (text_of left))
      → IfSome left (λ l. Closes (closed_by (found_of read) (nat_lt 0 (length held)) l))
      → Closes (behind_in (member_holds HEAD_LIMIT bytes))
  unfolding member_holds
  member_closed bytes read None same e k = absurd cc
  member_closed bytes read (Some l) same e k =
      holds_closed read (member_in bytes) l (grind arith) e k

-- ---- members without text

none_text : (text : List ℕ) (behind rest : List ℕ) (ahead : Option (List ℕ))
    → Reads (record_at HEAD_LIMIT 0) (Ok None) (Some text) ahead
    → behind_in (held_with behind (held_by text (record_at HEAD_LIMIT 0 text))) ≡ Ok rest
    → held_with behind (held_by text (record_at HEAD_LIMIT 0 text)) ≡ Ok (None, rest)
none_text text behind rest None e k = absurd e
none_text text behind rest (Some more) e k = grind arith

none_in : (m : Left) (rest : List ℕ) (ahead : Option (List ℕ))
    → Reads (record_at HEAD_LIMIT 0) (Ok None) (text_of (Some m)) ahead → behind_in (held_in HEAD_LIMIT m) ≡ Ok rest
    → held_in HEAD_LIMIT m ≡ Ok (None, rest)
none_in (Ok (text, behind)) rest ahead e k = none_text text behind rest ahead e k
none_in (Err d) rest ahead e k = absurd cc

holds_none : (bytes rest : List ℕ) (ahead : Option (List ℕ))
    → Reads (record_at HEAD_LIMIT 0) (Ok None) (text_of (Some (member_in bytes))) ahead
    → behind_in (member_holds HEAD_LIMIT bytes) ≡ Ok rest → member_holds HEAD_LIMIT bytes ≡ Ok (None, rest)
unfolding member_holds
holds_none bytes rest ahead e k = none_in (member_in bytes) rest ahead e k

pub fault_in : (x : Result (Held × List ℕ) Cause) (c : Cause) → behind_in x ≡ Err c → x ≡ Err c
fault_in (Ok (held, behind)) c e = absurd cc
fault_in (Err d) c e = grind arith

-- ---- what comes next is known

-- the bytes behind a member are those of the file from there on
pub behind_there : (start : ℕ) (bytes rest : List ℕ) (new : Taken) → start + length bytes ≤ 2 ^ 63 - 1
    → total_of new ≡ Some (start + length bytes) → new.ahead ≡ Some rest → length rest < length bytes
    → (new.passed ≡ start + (length bytes - length rest)) × (file_ahead new ≡ Some rest)
behind_there start bytes rest new near total e less =
    let t = total_known new (start + length bytes) total in
    let same : t.0 ≡ rest = grind arith in
    let passed : new.passed + length rest ≡ start + length bytes = omega (arith, t.2, ap length same) in
    (omega arith, within_is new.passed new.ahead rest e (omega arith))

pub fails_there : (start : ℕ) (bytes : List ℕ) (c : Cause) → begins_member bytes ≡ Ok true
    → IsPossibleCause c (behind_in (member_holds HEAD_LIMIT bytes))
    → IsPossibleFault (packed HEAD_LIMIT) start bytes (record { offset = start; cause = c })
fails_there start bytes c b (inl memory) = (packed_follows HEAD_LIMIT start start (omega arith), inl memory)
fails_there start bytes c b (inr (inl input)) =
    (packed_follows HEAD_LIMIT start start (omega arith), inr (inl input))
fails_there start bytes c b (inr (inr e)) = (
  packed_follows HEAD_LIMIT start start (omega arith),
  inr (inr (packed_fails HEAD_LIMIT start bytes c b (fault_in (member_holds HEAD_LIMIT bytes) c e))),
)

passes_there : (start : ℕ) (bytes rest : List ℕ) (new : Taken) → start + length bytes ≤ 2 ^ 63 - 1
    → begins_member bytes ≡ Ok true → member_holds HEAD_LIMIT bytes ≡ Ok (None, rest)
    → total_of new ≡ Some (start + length bytes) → new.ahead ≡ Some rest
    → (behind : List ℕ) × (file_ahead new ≡ Some behind)
    × ((packed HEAD_LIMIT).next start bytes ≡ (packed HEAD_LIMIT).next new.passed behind)
passes_there start bytes rest new near b e total ahead =
    let p = behind_there start bytes rest new near total ahead (holds_less HEAD_LIMIT bytes None rest e) in (
      rest,
      p.1,
      packed_passes HEAD_LIMIT start bytes rest b e
          ∙ ap (λ (o : ℕ). (packed HEAD_LIMIT).next o rest) (sym p.0),
    )

-- ---- a member that was begun

from_front : {A : Type 0} (f : List ℕ → Result (A × List ℕ) Cause) (r : Result A Cause)
    (known after : Option (List ℕ))
    → Reads f r (prepend_known [] known) after → Reads f r known after
from_front f r None after e = tt
from_front f r (Some bytes) after e = e

pub fault_at : (start : ℕ) (bytes : List ℕ) (f : Fault) → f.offset ≡ start
    → IsPossibleFault (packed HEAD_LIMIT) start bytes (record { offset = start; cause = f.cause })
    → IsPossibleFault (packed HEAD_LIMIT) start bytes f
fault_at start bytes f at p =
    let same : ◌≡◌ {A = Fault} (record { offset = start; cause = f.cause }) f = grind arith in
    subst (IsPossibleFault (packed HEAD_LIMIT) start bytes) same p

never_ok : (c : Cause) (holds : Bool) (l : Left) {A : Type 0} (x : A) (ahead : Option (List ℕ))
    → ClosesTo (closed_by (Err c) holds l) (Ok x) ahead → ⊥
never_ok c holds l x None k = k
never_ok c holds (Ok (text, behind)) x (Some rest) k = absurd cc
never_ok c holds (Err d) x (Some rest) k = absurd cc

not_closed : (c : Cause) (holds : Bool) (left : Option Left) (r : Result (List ℕ) DeflateFault) {A : Type 0} (x : A)
    (ahead : Option (List ℕ)) → option_map behind_of left ≡ Some r
    → IfSome left (λ l. ClosesTo (closed_by (Err c) holds l) (Ok x) ahead) → ⊥
not_closed c holds None r x ahead e k = absurd cc
not_closed c holds (Some l) r x ahead e k = never_ok c holds l x ahead k

module _ (start : ℕ) (bytes : List ℕ) (left left' : Option Left) (old mid new : Taken)
    (s : StartsMember start bytes (Ok true) left old) (near : start + length bytes ≤ 2 ^ 63 - 1)
    (on : ReadsOn left old left' mid) where
  behind_known : option_map behind_of left' ≡ Some (behind_of (member_in bytes))
  behind_known = on.stays (behind_of (member_in bytes)) (ap (option_map behind_of) s.1)

  as_known : {A : Type 0} (f : List ℕ → Result (A × List ℕ) Cause) (r : Result A Cause) (after : Option (List ℕ))
      → Reads f r (prepend_known [] (text_of left)) after → Reads f r (text_of (Some (member_in bytes))) after
  as_known f r after e = subst (λ (l : Option Left). Reads f r (text_of l) after) s.1
      (from_front f r (text_of left) after e)

  total_there : Moves mid new → total_of new ≡ Some (start + length bytes)
  total_there moves = moves.counted (start + length bytes) (on.counted (start + length bytes) s.2)

  passed_over : (ahead known : Option (List ℕ))
      → Reads (record_at HEAD_LIMIT 0) (Ok None) (text_of (Some (member_in bytes))) ahead → Moves mid new
      → new.ahead ≡ known → ClosesTo {A = Opening} (behind_in (member_holds HEAD_LIMIT bytes)) (Ok Empty) known
      → (behind : List ℕ) × (file_ahead new ≡ Some behind)
      × ((packed HEAD_LIMIT).next start bytes ≡ (packed HEAD_LIMIT).next new.passed behind)
  passed_over ahead None e moves is k = absurd k
  passed_over ahead (Some l) e moves is k =
      passes_there start bytes l new near s.0 (holds_none bytes l ahead e k) (total_there moves) is

  -- the member has no text
  pub empty_there : (held : List ℕ) (r : Result Opening Fault) (other : Option Left) (ahead : Option (List ℕ))
      → Reads (next_at HEAD_LIMIT 0) (Ok None) (prepend_known [] (text_of left)) (prepend_known held (text_of left'))
      → Moves mid new → IfOk r (λ o. o ≡ Empty) → IfErr r (λ f. f.offset ≡ start)
      → IfSome left' (λ l. ClosesTo (closed_by (Ok false) (nat_lt 0 (length held)) l) (causes_of r) new.ahead)
      → OpensMember start bytes r other new ahead
  empty_there held r other ahead e moves empty at k =
      let known = prepend_known held (text_of left') in
      let read = record-end HEAD_LIMIT 0 (text_of (Some (member_in bytes))) known known
      (as_known (next_at HEAD_LIMIT 0) (Ok None) known e) in
      by_result read r empty at
      (member_closed held Opening (causes_of r) new.ahead bytes (Ok None) left' behind_known read k)
    where
      by_result : Reads (record_at HEAD_LIMIT 0) (Ok None) (text_of (Some (member_in bytes)))
          (prepend_known held (text_of left'))
          → (r : Result Opening Fault) → IfOk r (λ o. o ≡ Empty) → IfErr r (λ f. f.offset ≡ start)
          → ClosesTo (behind_in (member_holds HEAD_LIMIT bytes)) (causes_of r) new.ahead
          → OpensMember start bytes r other new ahead
      by_result read (Ok Empty) empty at k =
          passed_over (prepend_known held (text_of left')) new.ahead read moves refl k
      by_result read (Ok (Record h)) empty at k = absurd cc
      by_result read (Ok End) empty at k = absurd cc
      by_result read (Err f) empty at k = fault_at start bytes f at (fails_there start bytes f.cause s.0 k)

  -- its text begins with no head
  pub broken_there : (c : Cause) (held : List ℕ) (r : Result Opening Fault) (other : Option Left)
      (ahead : Option (List ℕ))
      → Reads (next_at HEAD_LIMIT 0) (Err c) (prepend_known [] (text_of left)) (prepend_known held (text_of left'))
      → IfErr r (λ f. f.offset ≡ start)
      → IfSome left' (λ l. ClosesTo (closed_by (Err c) (nat_lt 0 (length held)) l) (causes_of r) new.ahead)
      → OpensMember start bytes r other new ahead
  broken_there c held r other ahead e at k =
      let known = prepend_known held (text_of left') in
      by_result (record-stopped HEAD_LIMIT 0 (text_of (Some (member_in bytes))) known known c
      (as_known (next_at HEAD_LIMIT 0) (Err c) known e)) r at k
    where
      by_result : Reads (record_at HEAD_LIMIT 0) (Err c) (text_of (Some (member_in bytes)))
          (prepend_known held (text_of left'))
          → (r : Result Opening Fault) → IfErr r (λ f. f.offset ≡ start)
          → IfSome left' (λ l. ClosesTo (closed_by (Err c) (nat_lt 0 (length held)) l) (causes_of r) new.ahead)
          → OpensMember start bytes r other new ahead
      by_result read (Ok o) at k = absurd (not_closed c (nat_lt 0 (length held)) left' _ o new.ahead behind_known k)
      by_result read (Err f) at k = fault_at start bytes f at (fails_there start bytes f.cause s.0
          (member_closed held Opening (Err f.cause) new.ahead bytes (Err c) left' behind_known read k))
