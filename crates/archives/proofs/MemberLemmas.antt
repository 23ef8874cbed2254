-- Where members of a compressed archive begin and end.
use Rattle.archives.proofs.Words.{◌≡◌, ℕ, ◌+◌, ◌-◌, ◌^◌, ◌≤◌, Bool, List, [], ◌∷◌, None, Some}
use Rattle.archives.proofs.Words.{Option, Result}
use Rattle.archives.proofs.Words.{Ok, Err, IfSome, HEAD_LIMIT, arith, ap, inl, inr}
use Rattle.archives.proofs.Words.{length, refl, ◌∙◌}
use Rattle.std.proofs.Common.{true, false, nat_lt, option_map, subst}
use Rattle.std.specs.Bool.{if◌then◌else◌}
use Rattle.std.proofs.lemmas.Bool.{le-ltb}
use Rattle.deflate_bits.specs.declared.fault.DeflateFault.{DeflateFault}
use Rattle.deflate_bits.specs.declared.fault.DeflateFault.TheVariants as deflate
use Rattle.gzip_members.specs.declared.fault.MemberFault.{MemberFault}
use Rattle.gzip_members.specs.declared.fault.MemberFault.TheVariants as faults
use Rattle.gzip_members.specs.Faults.{member_fault}
use Rattle.gzip_members.specs.Left.{BeginsMember, EndsMember, RefusesMember}
use Rattle.gzip_members.specs.Members.{member_in}
use Rattle.gzip_members.specs.Reading.{Moves, Taken, total_of}
use Rattle.warc_core.specs.declared.fault.Cause.TheVariants as causes
use Rattle.archives.specs.Form.{IsPossibleFault}
use Rattle.archives.specs.Packed.{held_in, member_cause, member_holds, packed}
use Rattle.archives.specs.MemberReading.{Left, file_ahead, within_file}
use Rattle.archives.specs.MemberReading.{EndsTo, StartsMember}
use Rattle.archives.proofs.PackedLemmas.{packed_begins_none, packed_fails, packed_follows}

-- what holds of each value holds of the known one
pub some_known : {A : Type 0} (o : Option A) {P : A → Type 0} → ((x : A) → o ≡ Some x → P x) → IfSome o P
some_known None h = tt
some_known (Some x) h = h x refl

-- ---- the bytes of a file

if_near : (b : Bool) (l bytes : List ℕ) → (if b then None else Some l) ≡ Some bytes → (b ≡ false) × (l ≡ bytes)
if_near true l bytes e = absurd cc
if_near false l bytes e = (refl, grind arith)

near_is : (n m : ℕ) → nat_lt n m ≡ false → m ≤ n
near_is n m e = grind arith

pub within_known : (passed : ℕ) (known : Option (List ℕ)) (bytes : List ℕ) → within_file passed known ≡ Some bytes
    → (known ≡ Some bytes) × (passed + length bytes ≤ 2 ^ 63 - 1)
within_known passed None bytes e = absurd cc
within_known passed (Some l) bytes e =
    let p = if_near (nat_lt (2 ^ 63 - 1) (passed + length l)) l bytes e in
    let near = near_is (2 ^ 63 - 1) (passed + length l) p.0 in
    (ap (λ x. Some x) p.1, subst (λ (x : List ℕ). passed + length x ≤ 2 ^ 63 - 1) p.1 near)

pub within_is : (passed : ℕ) (known : Option (List ℕ)) (bytes : List ℕ) → known ≡ Some bytes
    → passed + length bytes ≤ 2 ^ 63 - 1 → within_file passed known ≡ Some bytes
within_is passed known bytes e near = ap (within_file passed) e
    ∙ ap (λ (b : Bool). if b then None else Some bytes) (le-ltb (2 ^ 63 - 1) (passed + length bytes) near)

-- of a file of known length, the bytes ahead are known
pub total_known : (now : Taken) (n : ℕ) → total_of now ≡ Some n
    → (rest : List ℕ) × (now.ahead ≡ Some rest) × (now.passed + length rest ≡ n)
total_known now n e = from now.ahead refl e
  where
    from : (known : Option (List ℕ)) → now.ahead ≡ known
        → option_map (λ (bytes : List ℕ). now.passed + length bytes) known ≡ Some n
        → (rest : List ℕ) × (now.ahead ≡ Some rest) × (now.passed + length rest ≡ n)
    from None is k = absurd cc
    from (Some rest) is k = (rest, is, grind arith)

pub total_is : (now : Taken) (bytes : List ℕ) → now.ahead ≡ Some bytes
    → total_of now ≡ Some (now.passed + length bytes)
total_is now bytes e = ap (option_map (λ (l : List ℕ). now.passed + length l)) e

no_bytes : (bytes : List ℕ) → length bytes ≡ 0 → bytes ≡ []
no_bytes [] e = refl
no_bytes (b ∷ bytes) e = absurd (omega arith)

-- ---- a member begins, or none

pub holds_fault : (limit : ℕ) (bytes : List ℕ) (fault : DeflateFault) → member_in bytes ≡ Err fault
    → member_holds limit bytes ≡ Err (member_cause (member_fault fault))
unfolding member_holds
holds_fault limit bytes fault e = ap (held_in limit) e

starts_fault : (start : ℕ) (bytes : List ℕ) (fault : MemberFault) (left : Option Left)
    → BeginsMember bytes (Err fault) left
    → IsPossibleFault (packed HEAD_LIMIT) start bytes (record { offset = start; cause = member_cause fault })
starts_fault start bytes faults.Read left s =
    (packed_follows HEAD_LIMIT start start (omega arith), inr (inl refl))
starts_fault start bytes faults.NoMember left s = (
  packed_follows HEAD_LIMIT start start (omega arith),
  inr (inr (packed_begins_none HEAD_LIMIT start bytes faults.NoMember s)),
)
starts_fault start bytes faults.Bad left s = (
  packed_follows HEAD_LIMIT start start (omega arith),
  inr (inr (packed_fails HEAD_LIMIT start bytes causes.BadMember s.0
      (holds_fault HEAD_LIMIT bytes deflate.Bad s.1))),
)
starts_fault start bytes faults.Cut left (inl s) = (
  packed_follows HEAD_LIMIT start start (omega arith),
  inr (inr (packed_begins_none HEAD_LIMIT start bytes faults.Cut s)),
)
starts_fault start bytes faults.Cut left (inr s) = (
  packed_follows HEAD_LIMIT start start (omega arith),
  inr (inr (packed_fails HEAD_LIMIT start bytes causes.CutMember s.0
      (holds_fault HEAD_LIMIT bytes deflate.Cut s.1))),
)
starts_fault start bytes faults.TooFar left s = absurd s
starts_fault start bytes faults.TooLong left s = absurd s

-- by what the file answered
abbrev pub IsBegun : Taken → Result Bool MemberFault → Option Left → Type 0
IsBegun old r left = (bytes : List ℕ) → old.ahead ≡ Some bytes → old.passed + length bytes ≤ 2 ^ 63 - 1
    → BeginsMember bytes r left

pub begins_not : (old new : Taken) (fault : MemberFault) (left : Option Left) → IsBegun old (Err fault) left
    → IfSome (file_ahead old)
    (λ bytes. StartsMember old.passed bytes
    (Err (record { offset = old.passed; cause = member_cause fault })) left new)
begins_not old new fault left b = some_known (file_ahead old) λ bytes e.
    let k = within_known old.passed old.ahead bytes e in
    starts_fault old.passed bytes fault left (b bytes k.0 k.1)

starts_at : (old new : Taken) (begins : Bool) (left : Option Left) (bytes : List ℕ) → Moves old new
    → old.ahead ≡ Some bytes → old.passed + length bytes ≤ 2 ^ 63 - 1 → BeginsMember bytes (Ok begins) left
    → StartsMember old.passed bytes (Ok begins) left new
starts_at old new true left bytes m e near s =
    (s.0, s.1, m.counted (old.passed + length bytes) (total_is old bytes e))
starts_at old new false left bytes m e near s =
    let total = m.counted (old.passed + length bytes) (total_is old bytes e) in
    let t = total_known new (old.passed + length bytes) total in
    let none = no_bytes t.0 (omega (arith, ap length s, t.2, m.onward)) in
    (s, within_is new.passed new.ahead [] (t.1 ∙ ap (λ (l : List ℕ). Some l) none) (omega (arith, ap length s, t.2)))

pub begins_ok : (old new : Taken) (begins : Bool) (left : Option Left) → IsBegun old (Ok begins) left → Moves old new
    → IfSome (file_ahead old) (λ bytes. StartsMember old.passed bytes (Ok begins) left new)
begins_ok old new begins left b m = some_known (file_ahead old) λ bytes e.
    let k = within_known old.passed old.ahead bytes e in
    starts_at old new begins left bytes m k.0 k.1 (b bytes k.0 k.1)

-- ---- a member ends

ends_whole : (fault : MemberFault) (text behind : List ℕ) (ahead : Option (List ℕ))
    → EndsMember (Err fault) text behind ahead → EndsTo (Ok (text, behind)) (Err (member_cause fault)) ahead
ends_whole faults.Read text behind ahead e = inr refl
ends_whole faults.NoMember text behind ahead e = absurd e
ends_whole faults.Bad text behind ahead e = absurd e
ends_whole faults.Cut text behind ahead e = absurd e
ends_whole faults.TooFar text behind ahead e = absurd e
ends_whole faults.TooLong text behind ahead e = inl refl

ends_refused : (fault : MemberFault) (d : DeflateFault) (ahead : Option (List ℕ)) → RefusesMember (Err fault) d
    → EndsTo (Err d) (Err (member_cause fault)) ahead
ends_refused faults.Read d ahead e = inr (inl refl)
ends_refused faults.NoMember d ahead e = inr (inr (ap member_cause e))
ends_refused faults.Bad d ahead e = inr (inr (ap member_cause e))
ends_refused faults.Cut d ahead e = inr (inr (ap member_cause e))
ends_refused faults.TooFar d ahead e = absurd e
ends_refused faults.TooLong d ahead e = inl refl

pub ends_err : (left : Option Left) (fault : MemberFault) (ahead : Option (List ℕ))
    → ((text behind : List ℕ) → left ≡ Some (Ok (text, behind)) → EndsMember (Err fault) text behind ahead)
    → ((d : DeflateFault) → left ≡ Some (Err d) → RefusesMember (Err fault) d)
    → IfSome left (λ l. EndsTo l (Err (member_cause fault)) ahead)
ends_err None fault ahead w r = tt
ends_err (Some (Ok (text, behind))) fault ahead w r = ends_whole fault text behind ahead (w text behind refl)
ends_err (Some (Err d)) fault ahead w r = ends_refused fault d ahead (r d refl)

pub ends_ok : (left : Option Left) (had : Bool) (ahead : Option (List ℕ))
    → ((text behind : List ℕ) → left ≡ Some (Ok (text, behind)) → EndsMember (Ok had) text behind ahead)
    → ((d : DeflateFault) → left ≡ Some (Err d) → RefusesMember (Ok had) d)
    → IfSome left (λ l. EndsTo l (Ok had) ahead)
ends_ok None had ahead w r = tt
ends_ok (Some (Ok (text, behind))) had ahead w r = w text behind refl
ends_ok (Some (Err d)) had ahead w r = r d refl
