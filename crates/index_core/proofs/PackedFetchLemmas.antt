-- What is fetched of the captures of a compressed archive.
use Rattle.index_core.proofs.Words.{◌≡◌, ◌∙◌, ℕ, ◌-◌, List, Option, Some, Result, Ok, Err}
use Rattle.index_core.proofs.Words.{ap, arith, drop, inl, inr, length, refl, subst, sym, Appends, AppendsPrefix, Archive}
use Rattle.index_core.proofs.Words.{Cause, HEAD_LIMIT, IndexFault}
use Rattle.devices.proofs.WritingLemmas.{wrote_nothing}
use Rattle.gzip_members.specs.Members.{member_in}
use Rattle.index_core.specs.declared.fault.IndexFault.TheVariants as faults
use Rattle.index_core.specs.FetchingIn.{FetchesMember, HoldsNone, HoldsRecord, IsMemberFault, IsOfLength, not_looked}
use Rattle.index_core.specs.FetchingLaws.{WroteRecord}
use Rattle.index_core.specs.PackedFetching.{PackedCapturesAreFetched}
use Rattle.index_core.specs.Report.{IsNoDamage}
use Rattle.index_core.proofs.PackedPlaceLemmas.{member_text, packed_captures_stand}

module _ (bytes text behind : List ℕ) (is : HoldsRecord HEAD_LIMIT bytes text behind) where
  reads : member_in bytes ≡ Ok (text, behind)
  reads = member_text HEAD_LIMIT bytes is.head text behind is.holds

  -- the bytes begin with one record
  one_text : (t b : List ℕ) → HoldsRecord HEAD_LIMIT bytes t b → (t ≡ text) × (b ≡ behind)
  one_text t b h = (let same = sym h.holds ∙ is.holds in (grind arith, grind arith))

  not_none : (asked : Option ℕ) → IsOfLength asked (length bytes - length behind) → HoldsNone HEAD_LIMIT bytes asked → ⊥
  not_none asked l (inl e) = (let k = sym e ∙ is.begins in cc)
  not_none asked l (inr (inl e)) = (let k = sym e ∙ is.begins in cc)
  not_none asked l (inr (inr (inl (b, begins, e)))) = (let k = sym e ∙ is.holds in grind arith)
  not_none asked l (inr (inr (inr (t, b, h, other)))) =
      other (subst (λ (x : List ℕ). IsOfLength asked (length bytes - length x)) (sym (one_text t b h).1) l)

  no_damage : (cause : Cause) → IsMemberFault HEAD_LIMIT bytes cause → IsNoDamage cause
  no_damage cause (inl memory) = inl memory
  no_damage cause (inr (inl read)) = inr read
  no_damage cause (inr (inr (inl (begins, e)))) = absurd (let k = sym e ∙ is.holds in cc)
  no_damage cause (inr (inr (inr (e, same)))) = absurd (let k = sym e ∙ is.begins in cc)

  wrote : (asked : Option ℕ) (offset : ℕ) → IsOfLength asked (length bytes - length behind)
      → (result : Result ℕ IndexFault) (before after : Option (List ℕ))
      → FetchesMember HEAD_LIMIT asked offset (Some bytes) result before after → WroteRecord text result before after
  wrote asked offset l (Ok n) before after (t, size, grown, (b, h, other)) =
      let same = (one_text t b h).0 in
      (size ∙ ap (λ (x : List ℕ). length x) same, subst (Appends before after) same grown)
  wrote asked offset l (Err faults.NoRecord) before after (none, writes) = absurd (not_none asked l none)
  wrote asked offset l (Err (faults.Capture (Archive f))) before after (at, (fault, writes)) =
      (no_damage f.cause fault, writes text behind reads)
  wrote asked offset l (Err faults.Write) before after writes = writes text behind reads
  wrote asked offset l result before after s = grind arith

-- nothing was written where the archive was not looked at
not_looked_at : (text : List ℕ) (result : Result ℕ IndexFault) (before after : Option (List ℕ)) → result ≡ Err not_looked
    → after ≡ before → WroteRecord text result before after
not_looked_at text result before after e same =
    subst (λ r. WroteRecord text r before after) (sym e)
    (inr refl, subst (λ o. AppendsPrefix before o text) (sym same) (wrote_nothing before text))

pub packed_captures_are_fetched : PackedCapturesAreFetched
packed_captures_are_fetched types limits name archive captures e a i =
    let s = packed_captures_stand types limits HEAD_LIMIT name archive captures e a i in
    let text = s.0 in
    let len : length (drop e.offset archive) - length s.1.behind ≡ e.length = omega (arith, s.1.size) in (
      text,
      s.1,
      λ asked result before after l fetched. elim fetched [
        | inl f ↦ wrote (drop e.offset archive) text s.1.behind s.1.holds asked e.offset
            (subst (IsOfLength asked) (sym len) l) result before after f
        | inr f ↦ not_looked_at text result before after f.0 f.1
      ],
    )
