-- An archive decides what a report on it answers and writes.
use Rattle.index_core.proofs.Words.{◌≡◌, ◌∙◌, ℕ, List, ◌++◌, ◌⊎◌, inl, inr, Option, Some, append-nil, append_assoc}
use Rattle.index_core.proofs.Words.{Result, Ok, Err, refl, ap, arith, Appends, AppendsPrefix, Cause}
use Rattle.index_core.proofs.Words.{Fault, Archive, IndexFault}
use Rattle.index_core.proofs.Words.{IsFailure, IsOfArchive}
use Rattle.warc_core.specs.Reading.{IsPossibleCause}
use Rattle.archives.specs.Contents.{contents}
use Rattle.archives.specs.Form.{Form, Stored, IsLawful, IsPossibleFault, WalksOver}
use Rattle.archives.specs.Packing.{form_to}
use Rattle.index_core.specs.OneText.{HasFront, IsReport, WritesPart}
use Rattle.std.proofs.lemmas.List.{map-append}
use Rattle.std.proofs.lemmas.List.Concat.{flat_map-append}
use Rattle.warc_core.specs.declared.fault.Cause.TheVariants as causes
use Rattle.index_core.specs.Report.{IsNoDamage, Reports, Wording, lines_of, report_answer, report_text}
use Rattle.archives.proofs.PackingLemmas.{forms_lawful}
use Rattle.archives.proofs.ContentsLemmas.{contents_broken, contents_over, contents_whole}
use Rattle.index_core.specs.declared.fault.IndexFault.TheVariants as faults

-- what stands behind known bytes
pub grown : (before bytes : List ℕ) (text : Option (List ℕ)) → Appends (Some before) text bytes
    → text ≡ Some (before ++ bytes)
grown before bytes text a = grind arith

-- and a front of it
pub has_front : (before bytes : List ℕ) (whole part : Option (List ℕ)) → whole ≡ Some (before ++ bytes)
    → AppendsPrefix (Some before) part bytes → HasFront before whole part
has_front before bytes whole part e (more, w) = grind (arith, grown)

-- a cause of the archive's is that of the bytes
pub damage : {A : Type 0} (c : Cause) (r : Result A Cause) → (IsNoDamage c → ⊥) → IsPossibleCause c r → r ≡ Err c
damage c r n i = grind arith

-- a fault of the archive's is that of the bytes
pub found : (form : Form) (f : Fault) (offset : ℕ) (bytes : List ℕ) → (IsNoDamage f.cause → ⊥)
    → IsPossibleFault form offset bytes f → form.next offset bytes ≡ Err f
found form f offset bytes n p = elim p.1 [
  | inl memory ↦ absurd (n (inl memory))
  | inr other ↦ (elim other [
    | inl read ↦ absurd (n (inr read))
    | inr e ↦ e
  ])
]

-- ---- reports

module _ {A X : Type 0} (form : Form) (law : IsLawful form) (words : Wording A X) (archive : List ℕ) where
  abbrev whole : List ℕ
  whole = report_text words (contents form 0 archive)

  -- the lines of the first records come first
  first_lines : (records : List Stored) (end : ℕ) (rest : List ℕ) → WalksOver form 0 archive records end rest
      → (more : List ℕ) × (whole ≡ lines_of words records ++ more)
  first_lines records end rest w =
      let c = contents form end rest in
      let e = contents_over form law 0 archive records end rest w in
      (report_text words c, rw e (grind (arith, flat_map-append, map-append, append_assoc)))

  of_archive : (result : Result A IndexFault) (before after : Option (List ℕ)) → IsOfArchive result
      → Reports form words (Some archive) result before after
      → (result ≡ report_answer words (contents form 0 archive)) × Appends before after whole
  of_archive (Ok n) before after i (items, end, read, is, a) =
      let k = read.known in
      let says = k.1 in
      let e = contents_whole form law archive says.0
      (record { end = end; rest = k.0; walks = says.1; ended = k.2 }) in
      rw e (ap Ok is ∙ ap (λ x. Ok (words.tally x)) says.2, rw (append-nil, ← says.2) a)
  of_archive (Err (faults.Capture (Archive f))) before after i (items, (end, at, read), a) =
      let k = read.known in
      let says = k.1 in
      let e = contents_broken form law archive says.0 f
      (record { end = end; rest = k.0; walks = says.1; refused = found form f end k.0 i k.2 }) in
      rw e (refl, rw (← says.2) a)
  of_archive result before after i r = grind arith

  part : (result : Result A IndexFault) (before after : Option (List ℕ)) → IsFailure result
      → Reports form words (Some archive) result before after → WritesPart whole result before after
  part (Err (faults.Capture (Archive f))) before after i (items, (end, at, read), a) =
      let k = read.known in
      let says = k.1 in
      let m = first_lines says.0 end k.0 says.1 in
      (lines_of words says.0, m.0, m.1, rw says.2 at a)
  part (Err faults.Write) before after i (items, f, (end, at, read), p) =
      let k = read.known in
      let says = k.1 in
      let m = first_lines says.0 end k.0 says.1 in
      elim (stops k.2.1) [
        | inl n ↦ inr (f, n, lines_of words says.0, m.0, m.1, rw says.2 at p)
        | inr e ↦ (
            let is = contents_broken form law archive says.0 f
            (record { end = end; rest = k.0; walks = says.1; refused = e }) in
            inl (rw is (rw says.2 at p)))
      ]
    where
      stops : {c : Cause} {P : Type 0} → (c ≡ causes.Memory) ⊎ ((c ≡ causes.Read) ⊎ P) → IsNoDamage c ⊎ P
      stops i = grind arith
  part result before after i r = grind arith

pub is_report : {A X : Type 0} (words : Wording A X) → IsReport words
is_report words limit packing archive result before after r = (
  λ i. of_archive (form_to limit packing) (forms_lawful limit packing) words archive result before after i r,
  λ i. part (form_to limit packing) (forms_lawful limit packing) words archive result before after i r,
)
