-- From one member of a compressed archive to the next.
use Rattle.archives.proofs.Words.{◌≡◌, ℕ, ◌+◌, ◌-◌, ◌^◌, ◌≤◌, List, None, Some, Option, Result, Ok}
use Rattle.archives.proofs.Words.{Err, IfSome, Fault}
use Rattle.archives.proofs.Words.{HEAD_LIMIT, arith, ap, inl, inr, length, subst, sym, ◌∙◌}
use Rattle.std.proofs.Common.{true}
use Rattle.gzip_members.specs.Reading.{Taken}
use Rattle.gzip_members.specs.Starts.{begins_member}
use Rattle.archives.specs.declared.member_opening.Opening.{Opening}
use Rattle.archives.specs.declared.member_opening.Opening.TheVariants.{End}
use Rattle.archives.specs.declared.member_opening.OpenRecord.{OpenRecord}
use Rattle.archives.specs.Form.{Comes, IsPossibleFault}
use Rattle.archives.specs.Packed.{packed}
use Rattle.archives.specs.MemberReading.{IsLater, Left, OpensMember, OpensRecord, StartsMember, file_ahead}
use Rattle.archives.proofs.MemberLemmas.{some_known, within_known}
use Rattle.archives.proofs.PackedLemmas.{packed_ends, packed_follows, packed_onward}

if_some : {A : Type 0} (P : A → Type 0) (o : Option A) (x : A) → IfSome o P → o ≡ Some x → P x
if_some P None x h e = absurd cc
if_some P (Some y) x h e = (let same : y ≡ x = grind arith in subst P same h)

-- a member was begun, and its front read
pub begun_opens : (old mid new : Taken) (left left' : Option Left) (r : Result Opening Fault) (ahead : Option (List ℕ))
    → IfSome (file_ahead old) (λ bytes. StartsMember old.passed bytes (Ok true) left mid)
    → ((bytes : List ℕ) → StartsMember old.passed bytes (Ok true) left mid → old.passed + length bytes ≤ 2 ^ 63 - 1
    → OpensMember old.passed bytes r left' new ahead)
    → IfSome (file_ahead old) (λ bytes. OpensMember old.passed bytes r left' new ahead)
begun_opens old mid new left left' r ahead s opens = some_known (file_ahead old) λ bytes e.
    opens bytes (if_some (λ bytes. StartsMember old.passed bytes (Ok true) left mid) (file_ahead old) bytes s e)
    (within_known old.passed old.ahead bytes e).1

-- a fault at an offset is one at an earlier one, with members without text between them
pub fault_later : (offset start : ℕ) (bytes later : List ℕ) (f : Fault) → offset ≤ start
    → (packed HEAD_LIMIT).next offset bytes ≡ (packed HEAD_LIMIT).next start later
    → IsPossibleFault (packed HEAD_LIMIT) start later f → IsPossibleFault (packed HEAD_LIMIT) offset bytes f
fault_later offset start bytes later f onward same (follows, cause) =
    let on = packed_onward HEAD_LIMIT start f.offset follows in (
      packed_follows HEAD_LIMIT offset f.offset (omega arith),
      elim cause [
        | inl memory ↦ inl memory
        | inr other ↦ elim other [ inl input ↦ inr (inl input) | inr e ↦ inr (inr (same ∙ e)) ]
      ],
    )

module _ (old mid new : Taken) (left : Option Left) (ahead : Option (List ℕ))
    (later : IfSome (file_ahead old) (λ bytes. IsLater old.passed bytes mid)) where
  -- what was read of the member that follows
  abbrev Opened : Result Opening Fault → Type 0
  Opened r = IfSome (file_ahead mid) (λ bytes. OpensMember mid.passed bytes r left new ahead)

  abbrev Opens : Result (Option OpenRecord) Fault → Type 0
  Opens r = IfSome (file_ahead old) (λ bytes. OpensRecord old.passed bytes r left new ahead)

  at_later : (bytes : List ℕ) → file_ahead old ≡ Some bytes → IsLater old.passed bytes mid
  at_later bytes e = if_some (λ bytes. IsLater old.passed bytes mid) (file_ahead old) bytes later e

  at_opened : (r : Result Opening Fault) (bytes : List ℕ) → Opened r → file_ahead mid ≡ Some bytes
      → OpensMember mid.passed bytes r left new ahead
  at_opened r bytes o e =
      if_some (λ bytes. OpensMember mid.passed bytes r left new ahead) (file_ahead mid) bytes o e

  pub later_end : Opened (Ok End) → Opens (Ok None)
  later_end o = some_known (file_ahead old) λ bytes e.
      let p = at_later bytes e in
      let q = at_opened (Ok End) p.0 o p.1 in
      let ends = packed_ends HEAD_LIMIT mid.passed p.0 (ap begins_member q.0) in
      subst (λ (known : Option (List ℕ)). Comes (packed HEAD_LIMIT) old.passed (Ok None) (Some bytes) known)
      (sym q.1) (p.2 ∙ ends)

  pub later_fault : (f : Fault) → old.passed ≤ mid.passed → Opened (Err f) → Opens (Err f)
  later_fault f onward o = some_known (file_ahead old) λ bytes e.
      let p = at_later bytes e in
      fault_later old.passed mid.passed bytes p.0 f onward p.2 (at_opened (Err f) p.0 o p.1)
