-- The record of the member at an offset is one text.
use Rattle.index_core.proofs.Words.{◌≡◌, ◌∙◌, ◌++◌, ℕ, ◌-◌, List, Option, Some, Ok, Err, Archive}
use Rattle.index_core.proofs.Words.{Cause, Fault, ap, arith, inl, inr, length, subst, sym}
use Rattle.index_core.specs.declared.fault.IndexFault.TheVariants as faults
use Rattle.index_core.specs.FetchingIn.{HoldsNone, HoldsRecord, IsMemberFault, IsOfLength}
use Rattle.index_core.specs.OneText.{FetchesMemberFront, FetchesMemberOneText}
use Rattle.index_core.specs.Report.{IsNoDamage}
use Rattle.index_core.proofs.OneTextLemmas.{grown, has_front}
use Rattle.index_core.proofs.PackedPlaceLemmas.{member_text}

module _ (limit : ℕ) (bytes : List ℕ) where
  one_record : (t b u d : List ℕ) → HoldsRecord limit bytes t b → HoldsRecord limit bytes u d → (t ≡ u) × (b ≡ d)
  one_record t b u d h k = let same = sym h.holds ∙ k.holds in (grind arith, grind arith)

  -- what is a record of the length that was asked for is nothing else
  not_none : (asked : Option ℕ) (t b : List ℕ) → HoldsRecord limit bytes t b
      → IsOfLength asked (length bytes - length b) → HoldsNone limit bytes asked → ⊥
  not_none asked t b h l (inl e) = (let k = sym e ∙ h.begins in cc)
  not_none asked t b h l (inr (inl e)) = (let k = sym e ∙ h.begins in cc)
  not_none asked t b h l (inr (inr (inl (behind, begins, e)))) = (let k = sym e ∙ h.holds in grind arith)
  not_none asked t b h l (inr (inr (inr (u, d, k, other)))) =
      other (subst (λ (x : List ℕ). IsOfLength asked (length bytes - length x)) (one_record t b u d h k).1 l)

  no_fault : (cause : Cause) (t b : List ℕ) → HoldsRecord limit bytes t b → IsMemberFault limit bytes cause
      → IsNoDamage cause
  no_fault cause t b h (inl memory) = inl memory
  no_fault cause t b h (inr (inl read)) = inr read
  no_fault cause t b h (inr (inr (inl (begins, e)))) = absurd (let k = sym e ∙ h.holds in cc)
  no_fault cause t b h (inr (inr (inr (e, same)))) = absurd (let k = sym e ∙ h.begins in cc)

  no_fault_where_none : (cause : Cause) (asked : Option ℕ) → HoldsNone limit bytes asked
      → IsMemberFault limit bytes cause → IsNoDamage cause
  no_fault_where_none cause asked none (inl memory) = inl memory
  no_fault_where_none cause asked none (inr (inl read)) = inr read
  no_fault_where_none cause asked (inl e) (inr (inr fault)) = absurd (grind arith)
  no_fault_where_none cause asked (inr (inl e)) (inr (inr fault)) = absurd (grind arith)
  no_fault_where_none cause asked (inr (inr (inl (behind, begins, e)))) (inr (inr fault)) = absurd (grind arith)
  no_fault_where_none cause asked (inr (inr (inr (t, b, h, other)))) (inr (inr fault)) =
      no_fault cause t b h (inr (inr fault))

  one_cause : (this that : Cause) → (IsNoDamage this → ⊥) → (IsNoDamage that → ⊥) → IsMemberFault limit bytes this
      → IsMemberFault limit bytes that → this ≡ that
  one_cause this that i j a b = grind arith

  -- a fault of the archive's has one cause, at the offset
  one_fault : (offset : ℕ) (this that : Fault) → (IsNoDamage this.cause → ⊥) → (IsNoDamage that.cause → ⊥)
      → this.offset ≡ offset → that.offset ≡ offset → IsMemberFault limit bytes this.cause
      → IsMemberFault limit bytes that.cause → this ≡ that
  one_fault offset this that i j at there a b =
      let cause = one_cause this.cause that.cause i j a b in let same = at ∙ sym there in grind arith

pub member_one : FetchesMemberOneText
member_one limit offset asked bytes before (Ok n) (Ok m) text other i j (t, size, gains, (b, h, l))
    (u, sized, gained, (d, k, v)) =
    let same = (one_record limit bytes t b u d h k).0 in (
      ap Ok (size ∙ ap (λ (x : List ℕ). length x) same ∙ sym sized),
      grown before t text gains ∙ ap (λ x. Some (before ++ x)) same ∙ sym (grown before u other gained),
    )
member_one limit offset asked bytes before (Ok n) (Err faults.NoRecord) text other i j (t, size, gains, (b, h, l)) w =
    absurd (not_none limit bytes asked t b h l w.0)
member_one limit offset asked bytes before (Err faults.NoRecord) (Ok n) text other i j w (t, size, gains, (b, h, l)) =
    absurd (not_none limit bytes asked t b h l w.0)
member_one limit offset asked bytes before (Ok n) (Err (faults.Capture (Archive f))) text other i j
    (t, size, gains, (b, h, l)) w = absurd (j (no_fault limit bytes f.cause t b h w.1.0))
member_one limit offset asked bytes before (Err (faults.Capture (Archive f))) (Ok n) text other i j w
    (t, size, gains, (b, h, l)) = absurd (i (no_fault limit bytes f.cause t b h w.1.0))
member_one limit offset asked bytes before (Err faults.NoRecord) (Err (faults.Capture (Archive f))) text other i j v w =
    absurd (j (no_fault_where_none limit bytes f.cause asked v.0 w.1.0))
member_one limit offset asked bytes before (Err (faults.Capture (Archive f))) (Err faults.NoRecord) text other i j v w =
    absurd (i (no_fault_where_none limit bytes f.cause asked w.0 v.1.0))
member_one limit offset asked bytes before (Err (faults.Capture (Archive f))) (Err (faults.Capture (Archive e))) text
    other i j v w = (
      ap (λ x. Err (faults.Capture (Archive x)))
          (one_fault limit bytes offset f e i j v.0 w.0 v.1.0 w.1.0),
      tt,
    )
member_one limit offset asked bytes before this that text other i j v w = grind arith

pub member_front : FetchesMemberFront
member_front limit offset asked bytes before n (Err (faults.Capture (Archive f))) text other i
    (t, size, gains, (b, h, l)) w = has_front before t text other (grown before t text gains)
    (w.1.1 t b (member_text limit bytes h.head t b h.holds))
member_front limit offset asked bytes before n (Err faults.Write) text other i (t, size, gains, (b, h, l)) w =
    has_front before t text other (grown before t text gains) (w t b (member_text limit bytes h.head t b h.holds))
member_front limit offset asked bytes before n that text other i v w = grind arith
