-- An archive of any form is read record by record, to its end or to its fault.
use Rattle.archives.proofs.Words.{◌≡◌, ◌∙◌, ℕ, ◌<◌, List, [], ◌∷◌, None, Some, Option, Result, Ok, Err}
use Rattle.archives.proofs.Words.{Fault, ap, append-nil, arith, length, refl, sym, ◌++◌}
use Rattle.std.proofs.Common.{zero, suc}
use Rattle.std.specs.Prelude.{MatchOption}
use Rattle.archives.specs.Form.{Form, Stored, BreaksAfter, ConsistsOf, IsLawful, WalksOver, end_of}
use Rattle.archives.specs.Contents.{ArchiveContents, contents, contents_by, contents_to, with_records}

module _ (form : Form) (law : IsLawful form) where
  -- what is behind a record is all that matters
  by_same : (start : ℕ) (bytes : List ℕ) (f g : ℕ → List ℕ → ArchiveContents)
      → ((at : ℕ) (rest : List ℕ) → length rest < length bytes → f at rest ≡ g at rest)
      → (x : Result (Option Stored × List ℕ) Fault) → form.next start bytes ≡ x → contents_by f x ≡ contents_by g x
  by_same start bytes f g same (Ok (Some r, rest)) e =
      ap (with_records (r ∷ [])) (same (end_of r.place) rest (law.fewer start bytes rest r e))
  by_same start bytes f g same (Ok (None, rest)) e = refl
  by_same start bytes f g same (Err c) e = refl

  -- steps beyond the number of bytes change nothing
  enough : (n m start : ℕ) (bytes : List ℕ) → length bytes < n → length bytes < m
      → contents_to form n start bytes ≡ contents_to form m start bytes
  unfolding contents_to
  enough zero m start bytes a b = absurd (omega arith)
  enough (suc n) zero start bytes a b = absurd (omega arith)
  enough (suc n) (suc m) start bytes a b =
      by_same start bytes (λ at rest. contents_to form n at rest) (λ at rest. contents_to form m at rest)
      (λ at rest l. enough n m at rest (omega arith) (omega arith)) (form.next start bytes) refl

  -- an archive is read record by record
  contents_step : (start : ℕ) (bytes : List ℕ)
      → contents form start bytes ≡ contents_by (contents form) (form.next start bytes)
  unfolding contents contents_to
  contents_step start bytes =
      by_same start bytes (λ at rest. contents_to form (length bytes) at rest) (contents form)
      (λ at rest l. enough (length bytes) (suc (length rest)) at rest (omega arith) (omega arith))
      (form.next start bytes) refl

  -- what is read begins with the records that were walked over
  pub contents_over : (start : ℕ) (bytes : List ℕ) (records : List Stored) (end : ℕ) (rest : List ℕ)
      → WalksOver form start bytes records end rest
      → contents form start bytes ≡ with_records records (contents form end rest)
  contents_over start bytes [] end rest w = grind arith
  contents_over start bytes (r ∷ records) end rest w =
      rw w.1 at (contents_step start bytes)
      ∙ ap (with_records (r ∷ [])) (contents_over (end_of r.place) w.0 records end rest w.2)

  module _ (archive : List ℕ) (records : List Stored) where
    -- the archive is read as the records that it consists of
    pub contents_whole : ConsistsOf form archive records
        → contents form 0 archive ≡ record { records = records; fault = None }
    contents_whole w =
        rw (rw w.ended at (contents_step w.end w.rest), append-nil)
        at (contents_over 0 archive records w.end w.rest w.walks)

    -- or as those before its fault, and this
    pub contents_broken : (f : Fault) → BreaksAfter form archive records f
        → contents form 0 archive ≡ record { records = records; fault = Some f }
    contents_broken f w =
        rw (rw w.refused at (contents_step w.end w.rest), append-nil)
        at (contents_over 0 archive records w.end w.rest w.walks)

  module _ (archive : List ℕ) (hs gs : List Stored) where
    pub one_list : ConsistsOf form archive hs → ConsistsOf form archive gs → hs ≡ gs
    one_list v w =
        ap (λ (c : ArchiveContents). c.records) (sym (contents_whole archive hs v) ∙ contents_whole archive gs w)

    pub not_both : (f : Fault) → ConsistsOf form archive hs → BreaksAfter form archive gs f → ⊥
    not_both f v w =
        let e = ap (λ (c : ArchiveContents). c.fault)
        (sym (contents_whole archive hs v) ∙ contents_broken archive gs f w) in
        grind arith

  -- the records that an archive consists of begin with those that were walked over
  pub whole_over : (archive : List ℕ) (all : List Stored) → ConsistsOf form archive all
      → (records : List Stored) (end : ℕ) (rest : List ℕ) → WalksOver form 0 archive records end rest
      → all ≡ records ++ (contents form end rest).records
  whole_over archive all a records end rest w =
      ap (λ (c : ArchiveContents). c.records)
      (sym (contents_whole archive all a) ∙ contents_over 0 archive records end rest w)

  -- what was read can be walked over, to the end or to a fault
  pub record Walked (start : ℕ) (bytes : List ℕ) (c : ArchiveContents) : Type 0 where
    pub end : ℕ
    pub rest : List ℕ
    pub walks : WalksOver form start bytes c.records end rest
    pub stops : MatchOption c.fault (form.next end rest ≡ Ok (None, [])) (λ f. form.next end rest ≡ Err f)

  walked_by : (start : ℕ) (bytes : List ℕ)
      → ((at : ℕ) (rest : List ℕ) → length rest < length bytes → Walked at rest (contents form at rest))
      → (x : Result (Option Stored × List ℕ) Fault) → form.next start bytes ≡ x
      → Walked start bytes (contents_by (contents form) x)
  walked_by start bytes more (Ok (Some r, rest)) e =
      let w = more (end_of r.place) rest (law.fewer start bytes rest r e) in
      record { end = w.end; rest = w.rest; walks = (rest, e, w.walks); stops = w.stops }
  walked_by start bytes more (Ok (None, rest)) e = record {
    end = start;
    rest = bytes;
    walks = (refl, refl);
    stops = rw (law.ended start bytes rest e) at e;
  }
  walked_by start bytes more (Err f) e = record { end = start; rest = bytes; walks = (refl, refl); stops = e }

  walked_to : (n start : ℕ) (bytes : List ℕ) → length bytes < n → Walked start bytes (contents form start bytes)
  walked_to zero start bytes l = absurd (omega arith)
  walked_to (suc n) start bytes l =
      rw (contents_step start bytes)
      (walked_by start bytes (λ at rest k. walked_to n at rest (omega arith)) (form.next start bytes) refl)

  pub walked : (archive : List ℕ) → Walked 0 archive (contents form 0 archive)
  walked archive = walked_to (suc (length archive)) 0 archive (omega arith)
