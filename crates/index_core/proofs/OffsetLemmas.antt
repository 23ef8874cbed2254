-- One thing stands at an offset of an archive.
use Rattle.index_core.proofs.Words.{◌≡◌, ℕ, ◌+◌, ◌<◌, ◌≤◌, List, [], ◌∷◌, ◌++◌, ◌⊎◌, inl, inr, Some}
use Rattle.index_core.proofs.Words.{Result, Ok, Err, take, drop, refl, arith, Cause, Fault}
use Rattle.index_core.proofs.Words.{HeadView, record_length, Walks, not_both, two-walks}
use Rattle.index_core.proofs.Words.{walk-extends, Walks-more, Archive, IndexFault, IsRecordOf}
use Rattle.index_core.proofs.Words.{IsInRecord, StandsIn, ap}
use Rattle.std.proofs.Common.{nat_lt}
use Rattle.std.proofs.lemmas.Bool.Decides.{nat_tests}
use Rattle.warc_core.specs.Walk.{record_at}
use Rattle.warc_core.proofs.ArchiveLemmas.{walk-front}
use Rattle.warc_core.proofs.HeadLemmas.{which}
use Rattle.warc_core.proofs.SpelledLemmas.{total}
use Rattle.warc_core.proofs.WalkLemmas.{one_fault}
use Rattle.index_core.specs.Fetching.{IsTextAt, IsBehindRecords, IsDamagedBy}
use Rattle.index_core.specs.Laws.{OneStands, SomeStands}
use Rattle.index_core.proofs.ArchiveWalks.{from_offset}
use Rattle.index_core.specs.declared.fault.IndexFault.TheVariants as faults

module _ (limit : ℕ) where
  -- a walk on from a record's beginning ends behind the record, or there
  goes_behind : (o p : ℕ) (r y t : List ℕ) (h : HeadView) (more : List HeadView) → record_at limit o r ≡ Ok (Some h, y)
      → o < p → Walks limit o r more p t → o + record_length h ≤ p
  goes_behind o p r y t h [] a l w = grind arith
  goes_behind o p r y t h (k ∷ more) a l w = grind (arith, walk-front)

  module _ (archive : List ℕ) (o p : ℕ) (h : HeadView) (gs : List HeadView) (t : List ℕ)
      (a : IsRecordOf limit archive o h) (w : Walks limit 0 archive gs p t) where
    -- what is behind a record's beginning is behind its end
    behind_record : o < p → o + record_length h ≤ p
    behind_record l =
        elim (two-walks limit 0 archive a.before gs o p a.bytes t a.walks w) [
          | inl m ↦ grind (arith, goes_behind)
          | inr m ↦ absurd (grind (arith, walk-front))
        ]

    -- a record ends where the archive ends or is damaged, or before it
    before_end : (t ≡ []) ⊎ ((c : Cause) × (record_at limit p t ≡ Err c)) → o + record_length h ≤ p
    before_end e =
        let m = walk-extends limit 0 archive (a.before ++ h ∷ []) gs (o + record_length h) p a.rest t
        (Walks-more limit 0 archive a.before o a.bytes h a.rest a.walks a.whole) w e in
        grind (arith, walk-front)

  -- ---- one thing stands there

  module _ (archive : List ℕ) (offset : ℕ) where
    one_text : (a b : List ℕ) → IsTextAt limit archive offset a → IsTextAt limit archive offset b → a ≡ b
    one_text a b x y = grind (arith, from_offset)

    text_or_none : (a : List ℕ) → IsTextAt limit archive offset a → IsInRecord limit archive offset
        ⊎ IsBehindRecords limit archive offset → ⊥
    text_or_none a x (inl n) =
        let l = behind_record archive n.0 offset n.1 x.1.before x.1.bytes n.2 x.1.walks n.3 in grind arith
    text_or_none a x (inr n) =
        let l = before_end archive offset n.1.end x.0 n.0 [] x.1 n.1.walks (inl refl) in grind arith

    text_or_damage : (a : List ℕ) (f : Fault) → IsTextAt limit archive offset a → IsDamagedBy limit archive offset f → ⊥
    text_or_damage a f x d =
        let l = before_end archive offset f.offset x.0 d.0 d.1.rest x.1 d.1.walks (inr (f.cause, d.1.refused)) in
        grind arith

    none_or_damage : (f : Fault) → IsInRecord limit archive offset ⊎ IsBehindRecords limit archive offset
        → IsDamagedBy limit archive offset f → ⊥
    none_or_damage f (inl n) d =
        let l = before_end archive n.0 f.offset n.1 d.0 d.1.rest n.2 d.1.walks (inr (f.cause, d.1.refused)) in
        grind arith
    none_or_damage f (inr n) d = grind (arith, not_both)

    one_damage : (f g : Fault) → IsDamagedBy limit archive offset f → IsDamagedBy limit archive offset g → f ≡ g
    one_damage f g x y = grind (arith, one_fault)

    one_answer : (this that : Result (List ℕ) IndexFault) → StandsIn limit archive offset this
        → StandsIn limit archive offset that → this ≡ that
    one_answer (Ok a) (Ok b) s t = ap Ok (one_text a b s t)
    one_answer (Ok a) (Err faults.NoRecord) s t = absurd (text_or_none a s t)
    one_answer (Ok a) (Err (faults.Capture (Archive g))) s t = absurd (text_or_damage a g s t)
    one_answer (Err faults.NoRecord) (Ok b) s t = absurd (text_or_none b t s)
    one_answer (Err faults.NoRecord) (Err faults.NoRecord) s t = refl
    one_answer (Err faults.NoRecord) (Err (faults.Capture (Archive g))) s t = absurd (none_or_damage g s t)
    one_answer (Err (faults.Capture (Archive f))) (Ok b) s t = absurd (text_or_damage b f t s)
    one_answer (Err (faults.Capture (Archive f))) (Err faults.NoRecord) s t = absurd (none_or_damage f t s)
    one_answer (Err (faults.Capture (Archive f))) (Err (faults.Capture (Archive g))) s t =
        ap (λ d. Err (faults.Capture (Archive d))) (one_damage f g s t)
    one_answer this that s t = grind arith

pub one_stands : OneStands
one_stands limit offset archive = one_answer limit archive offset

-- ---- something stands there

abbrev Stands : ℕ → ℕ → List ℕ → Type 0
Stands limit offset archive = (answer : Result (List ℕ) IndexFault) × StandsIn limit archive offset answer

-- before the end of whole records a record begins, or one that began goes on
stands_within : (limit offset : ℕ) (archive : List ℕ) (before heads : List HeadView) (start end : ℕ)
    (bytes rest : List ℕ)
    → Walks limit 0 archive before start bytes → Walks limit start bytes heads end rest → start ≤ offset
    → offset < end → Stands limit offset archive
stands_within limit offset archive before [] start end bytes rest w v l m = absurd (grind arith)
stands_within limit offset archive before (h ∷ heads) start end bytes rest w v l m =
    let r : IsRecordOf limit archive start h =
    record { before = before; bytes = bytes; rest = v.0; walks = w; whole = v.1 } in
    elim (which (nat_lt start offset)) [
      | inr here ↦ (
          let same : start ≡ offset = grind (arith, nat_tests) in
          (Ok (take (record_length h) (drop offset archive)), (h, rw (← same) r, refl)))
      | inl past ↦ (elim (which (nat_lt offset (start + record_length h))) [
        | inl in_it ↦ (Err faults.NoRecord, inl (start, h, r, grind (arith, nat_tests), grind (arith, nat_tests)))
        | inr behind ↦ stands_within limit offset archive (before ++ h ∷ []) heads (start + record_length h) end v.0
            rest (Walks-more limit 0 archive before start bytes h v.0 w v.1) v.2 (grind (arith, nat_tests)) m
      ])
    ]

pub some_stands : SomeStands
some_stands limit offset archive =
    elim (total limit archive) [
      | inl a ↦ (elim (which (nat_lt offset a.1.end)) [
        | inl t ↦ stands_within limit offset archive [] a.0 0 a.1.end archive [] (refl, refl) a.1.walks (omega arith)
            (grind (arith, nat_tests))
        | inr f ↦ (Err faults.NoRecord, inr (a.0, a.1, grind (arith, nat_tests)))
      ])
      | inr d ↦ (elim (which (nat_lt offset d.1)) [
        | inl t ↦ stands_within limit offset archive [] d.0 0 d.1 archive d.3.rest (refl, refl) d.3.walks (omega arith)
            (grind (arith, nat_tests))
        | inr f ↦ (
          Err (faults.Capture (Archive (record { offset = d.1; cause = d.2 }))),
          (d.0, d.3, grind (arith, nat_tests)),
        )
      ])
    ]

pub ruleset one_thing_rules = (one_stands, some_stands)
