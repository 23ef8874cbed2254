-- An archive adds one list of captures, with one result, and their index is one text.
use Rattle.index_core.proofs.Words.{◌≡◌, ◌∙◌, ℕ, Bool, List, [], ◌∷◌, ◌++◌, Some, Result, Ok, Err, ap}
use Rattle.index_core.proofs.Words.{append_assoc, append-nil, inl, inr, refl, sym, arith, AllByRecursion}
use Rattle.index_core.proofs.Words.{Kind, EntryValue, CaptureFault, Archive, Limits, IndexFault}
use Rattle.index_core.proofs.Words.{AreCaptured, IsTaken, IsAcceptedTo, IsFailure, IsOfArchive}
use Rattle.capture_core.specs.declared.fault.CaptureFault.TheVariants.{LineTooLong, KeyTooLong}
use Rattle.capture_core.proofs.Captures.{one_capture}
use Rattle.index_core.specs.Adding.{Adds}
use Rattle.archives.specs.Form.{Form, IsLawful, Stored, WalksOver}
use Rattle.archives.specs.Packing.{form_to}
use Rattle.index_core.specs.Indexing.{Held}
use Rattle.index_core.specs.Laws.{IsNoFaultOfArchive}
use Rattle.index_core.specs.OneText.{HasFirst, AddsOneList, AddsFirst, WritesOneIndex}
use Rattle.index_core.specs.OneText.{WritesIndexFront}
use Rattle.index_core.proofs.AcceptedLemmas.{all_taken, as_whole, captured_once, each_behind}
use Rattle.index_core.proofs.AcceptedLemmas.{no_long_line, not_refused, one_accepted}
use Rattle.archives.proofs.ContentsLemmas.{whole_over}
use Rattle.archives.proofs.PackingLemmas.{forms_lawful}
use Rattle.archives.proofs.RecordWalks.{GoesOnFrom, two_walks}
use Rattle.index_core.proofs.OneTextLemmas.{grown, has_front, found}
use Rattle.index_core.specs.declared.fault.IndexFault.TheVariants as faults

module _ (types : Kind → Bool) (limits : Limits) (form : Form) (law : IsLawful form) (name archive : List ℕ) where
  -- where an archive is refused, no walk over records that are taken goes on
  no_further : (fault : CaptureFault) (gained : List EntryValue) (more : List Stored) (p : ℕ) (t : List ℕ)
      → (IsNoFaultOfArchive fault → ⊥) → (v : IsAcceptedTo types limits form name fault archive gained)
      → WalksOver form v.end v.rest more p t
      → AllByRecursion (IsTaken types limits form name) more → more ≡ []
  no_further fault gained [] p t i v w a = refl
  no_further (Archive f) gained (r ∷ more) p t i v w a =
      let e = found form f v.end v.rest i v.refused in absurd (grind arith)
  no_further (LineTooLong o) gained (r ∷ more) p t i v w a =
      let same : r ≡ v.refused.0 = grind arith in
      absurd (no_long_line types limits form name v.refused.0 v.refused.2 (rw same at a.0) v.refused.3 v.refused.4)
  no_further (KeyTooLong o) gained (r ∷ more) p t i v w a = absurd (i tt)

  -- the walk to a refusal goes on from where any other stopped
  refusal_extends : (fault : CaptureFault) (gained : List EntryValue) (hs : List Stored) (o : ℕ) (r : List ℕ)
      → (IsNoFaultOfArchive fault → ⊥) → (v : IsAcceptedTo types limits form name fault archive gained)
      → WalksOver form 0 archive hs o r → AllByRecursion (IsTaken types limits form name) hs
      → GoesOnFrom form hs v.records o v.end r v.rest
  refusal_extends fault gained hs o r i v w a =
      elim (two_walks form 0 archive hs v.records o v.end r v.rest w v.walks) [
        | inl m ↦ m
        | inr m ↦ (
            let none = no_further fault gained m.0 o r i v m.2
            (each_behind (IsTaken types limits form name) v.records m.0 (rw m.1 at a)) in
            ([], grind (arith, append-nil), grind arith))
      ]

  -- two refusals of what comes next are one
  one_cause : (this that : CaptureFault) (gained others : List EntryValue) → (IsNoFaultOfArchive this → ⊥)
      → (IsNoFaultOfArchive that → ⊥) → (v : IsAcceptedTo types limits form name this archive gained)
      → (w : IsAcceptedTo types limits form name that archive others) → v.end ≡ w.end → v.rest ≡ w.rest → this ≡ that
  one_cause (Archive f) (Archive g) gained others i j v w e r =
      let x = found form f v.end v.rest i v.refused in
      let y = found form g w.end w.rest j w.refused in
      let same : f ≡ g = grind arith in ap Archive same
  one_cause (Archive f) (LineTooLong o) gained others i j v w e r =
      let x = found form f v.end v.rest i v.refused in
      let y = w.refused.1.1 in absurd (grind arith)
  one_cause (LineTooLong o) (Archive g) gained others i j v w e r =
      let y = found form g w.end w.rest j w.refused in
      let x = v.refused.1.1 in absurd (grind arith)
  one_cause (LineTooLong o) (LineTooLong p) gained others i j v w e r =
      let x = v.refused.1.1 in
      let y = w.refused.1.1 in
      let record_is : v.refused.0 ≡ w.refused.0 = grind arith in
      ap LineTooLong (sym v.refused.1.2 ∙ (ap (λ s. s.place.offset) record_is ∙ w.refused.1.2))
  one_cause (KeyTooLong o) that gained others i j v w e r = absurd (i tt)
  one_cause this (KeyTooLong o) gained others i j v w e r = absurd (j tt)

  -- an archive is accepted up to one fault, over the same records
  one_refusal : (this that : CaptureFault) (gained others : List EntryValue) → (IsNoFaultOfArchive this → ⊥)
      → (IsNoFaultOfArchive that → ⊥) → (v : IsAcceptedTo types limits form name this archive gained)
      → (w : IsAcceptedTo types limits form name that archive others) → (this ≡ that) × (v.records ≡ w.records)
  one_refusal this that gained others i j v w =
      let m = refusal_extends that others v.records v.end v.rest j w v.walks
      (all_taken types limits form name v.records gained v.captured) in
      let none = no_further this gained m.0 w.end w.rest i v m.2
      (each_behind (IsTaken types limits form name) v.records m.0
      (rw m.1 at (all_taken types limits form name w.records others w.captured))) in
      let walk = rw none at m.2 in (
        one_cause this that gained others i j v w (sym walk.0) (sym walk.1),
        sym (m.1 ∙ (ap (λ more. v.records ++ more) none ∙ append-nil v.records)),
      )

  adds_once : (old new other : Held) (this that : Result ℕ IndexFault) → IsOfArchive this → IsOfArchive that
      → Adds types limits form name (Some archive) old new this
      → Adds types limits form name (Some archive) old other that → (this ≡ that) × (new ≡ other)
  adds_once old new other (Ok n) (Ok m) i j (a, e, g) (b, f, h) =
      let same = one_accepted types limits form name law archive a b g.2 h.2 in (cc, cc)
  adds_once old new other (Ok n) (Err (faults.Capture fault)) i j (a, e, g) (b, f, h) = absurd (j (
      not_refused types limits form name law archive fault b (as_whole types limits form name law archive a g.2) h.1
      ))
  adds_once old new other (Err (faults.Capture fault)) (Ok m) i j (a, e, g) (b, f, h) = absurd (i (
      not_refused types limits form name law archive fault a (as_whole types limits form name law archive b h.2) g.1
      ))
  adds_once old new other (Err (faults.Capture fault)) (Err (faults.Capture second)) i j (a, e, g) (b, f, h) =
      let same = one_refusal fault second a b i j g.1 h.1 in
      let captures = captured_once types limits form name g.1.records a b g.1.captured
      (rw same.1 h.1.captured) in (let e = same.0 in cc, cc)
  adds_once old new other this that i j x y = grind arith

  -- ---- the first captures

  -- the captures of the first records are the first captures
  first_captures : (hs more : List Stored) (a b : List EntryValue)
      → AreCaptured types limits form name hs a
      → AreCaptured types limits form name (hs ++ more) b → (later : List EntryValue) × (b ≡ a ++ later)
  first_captures [] more a b v w = (b, grind arith)
  first_captures (h ∷ hs) more a b v w =
      let m = first_captures hs more v.1 w.1 v.3 w.3 in (m.0, grind (arith, one_capture, append_assoc))

  added_first : (old new other : Held) (this that : Result ℕ IndexFault) → IsOfArchive this → IsFailure that
      → Adds types limits form name (Some archive) old new this
      → Adds types limits form name (Some archive) old other that → HasFirst name old new other that
  added_first old new other (Ok n) (Err (faults.Capture fault)) i j (a, e, g) (b, f, h) =
      let same = whole_over form law archive g.2.records g.2.whole h.1.records h.1.end h.1.rest h.1.walks in
      let t = first_captures h.1.records _ b a h.1.captured (rw same at g.2.captured) in
      grind arith
  added_first old new other (Err (faults.Capture first)) (Err (faults.Capture fault)) i j (a, e, g) (b, f, h) =
      let m = refusal_extends first a h.1.records h.1.end h.1.rest i g.1 h.1.walks
      (all_taken types limits form name h.1.records b h.1.captured) in
      let t = first_captures h.1.records m.0 b a h.1.captured (rw m.1 at g.1.captured) in
      grind arith
  added_first old new other this that i j x y = grind arith

pub adds_one_list : AddsOneList
adds_one_list types limits limit packing name archive =
    adds_once types limits (form_to limit packing) (forms_lawful limit packing) name archive

pub adds_first : AddsFirst
adds_first types limits limit packing name archive =
    added_first types limits (form_to limit packing) (forms_lawful limit packing) name archive

-- ---- the index that is written

pub writes_one_index : WritesOneIndex
writes_one_index captures before n m text other t o = grind (arith, grown)

pub writes_index_front : WritesIndexFront
writes_index_front captures before n fault text other t o = grind (arith, grown, has_front)
