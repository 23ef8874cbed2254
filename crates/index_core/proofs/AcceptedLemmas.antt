-- Archives that are accepted: their captures are one list, and they are refused for no fault of their own.
use Rattle.index_core.proofs.Words.{◌≡◌, ◌∙◌, ℕ, ◌<◌, Bool, List, [], ◌∷◌, ◌++◌, Some, Ok}
use Rattle.index_core.proofs.Words.{length, append_assoc, inl, inr, sym, arith, AllByRecursion, Kind}
use Rattle.index_core.proofs.Words.{Archive, EntryValue, CaptureFault, Limits, fault_offset}
use Rattle.index_core.proofs.Words.{AreCaptured, IsTaken, IsAcceptedTo}
use Rattle.cdxj_core.specs.Entries.{line_text}
use Rattle.capture_core.proofs.Captures.{one_capture}
use Rattle.capture_core.specs.declared.fault.CaptureFault.TheVariants.{LineTooLong, KeyTooLong}
use Rattle.archives.specs.Captures.{IsCaptureFrom, MayBeRefused}
use Rattle.index_core.specs.Accepted.{IsAccepted, IsAcceptedWhole}
use Rattle.archives.specs.Contents.{contents}
use Rattle.archives.specs.Packing.{form_to}
use Rattle.archives.specs.Form.{Form, Stored, IsLawful, WalksOver, end_of, plain}
use Rattle.index_core.specs.Laws.{AcceptedIsWhole, IsNoFaultOfArchive, OneIndexed, OneIndexedTo}
use Rattle.index_core.specs.Laws.{WholeIsNotRefused}
use Rattle.archives.proofs.PlainLemmas.{plain_at, plain_lawful}
use Rattle.archives.proofs.ContentsLemmas.{not_both, one_list, whole_over}
use Rattle.archives.proofs.PackingLemmas.{forms_lawful}
use Rattle.archives.proofs.RecordWalks.{same_records, walks_more}

-- what holds of each holds of each behind the first of them
pub each_behind : (A : Stored → Type 0) (records more : List Stored) → AllByRecursion A (records ++ more)
    → AllByRecursion A more
each_behind A [] more a = a
each_behind A (r ∷ records) more a = each_behind A records more a.1

module _ (types : Kind → Bool) (limits : Limits) (form : Form) (name : List ℕ) where
  -- records have one list of captures
  pub captured_once : (records : List Stored) (a b : List EntryValue) → AreCaptured types limits form name records a
      → AreCaptured types limits form name records b → a ≡ b
  captured_once [] a b v w = grind arith
  captured_once (r ∷ records) a b v w = grind (arith, one_capture, captured_once records v.1 w.1 v.3 w.3)

  -- records that have captures are taken
  pub all_taken : (records : List Stored) (captures : List EntryValue)
      → AreCaptured types limits form name records captures
      → AllByRecursion (IsTaken types limits form name) records
  all_taken [] captures c = tt
  all_taken (r ∷ records) captures c = grind (arith, one_capture, all_taken records c.1 c.3)

  -- the line of a capture that is taken isn't too long
  pub no_long_line : (r : Stored) (e : EntryValue) → IsTaken types limits form name r
      → IsCaptureFrom types limits form name r (Some e) → limits.line < length (line_text e) → ⊥
  no_long_line r e t c long = let fits = t (Some e) c in omega arith

  module _ (law : IsLawful form) (archive : List ℕ) where
    -- a record that is read where a walk stopped is taken
    taken_there : (records : List Stored) (o : ℕ) (rest later : List ℕ) (r : Stored)
        → IsAcceptedWhole types limits form name archive → WalksOver form 0 archive records o rest
        → form.next o rest ≡ Ok (Some r, later) → IsTaken types limits form name r
    taken_there records o rest later r a w e =
        let more = (contents form (end_of r.place) later).records in
        let same : a.records ≡ records ++ (r ∷ more) =
        whole_over form law archive a.records a.whole (records ++ r ∷ []) (end_of r.place) later
        (walks_more form 0 archive records o rest r later w e) ∙ append_assoc records (r ∷ []) more in
        (each_behind (IsTaken types limits form name) records (r ∷ more) (rw same at a.taken)).0

    pub not_refused : (fault : CaptureFault) (gained : List EntryValue) → IsAcceptedWhole types limits form name archive
        → IsAcceptedTo types limits form name fault archive gained → IsNoFaultOfArchive fault
    not_refused (Archive f) gained a t = elim t.refused.1 [
      | inl memory ↦ inl memory
      | inr other ↦ (elim other [
        | inl read ↦ inr read
        | inr e ↦ absurd (not_both form law archive a.records t.records f a.whole
            (record { end = t.end; rest = t.rest; walks = t.walks; refused = e }))
      ])
    ]
    not_refused (LineTooLong o) gained a t =
        let next = t.refused.1 in
        let taken = taken_there t.records t.end t.rest next.0 t.refused.0 a t.walks next.1 in
        absurd (no_long_line t.refused.0 t.refused.2 taken t.refused.3 t.refused.4)
    not_refused (KeyTooLong o) gained a t = tt

    -- an archive is accepted with one list of captures
    pub one_accepted : (a b : List EntryValue) → IsAccepted types limits form name archive a
        → IsAccepted types limits form name archive b → a ≡ b
    one_accepted a b v w =
        let records = one_list form law archive v.records w.records v.whole w.whole in
        captured_once v.records a b v.captured (rw records w.captured)

    pub as_whole : (captures : List EntryValue) → IsAccepted types limits form name archive captures
        → IsAcceptedWhole types limits form name archive
    as_whole captures a = record {
      records = a.records;
      whole = a.whole;
      taken = all_taken a.records captures a.captured;
    }

    -- what is refused is found from where it is read on
    pub refused_at : (end : ℕ) (rest : List ℕ) (fault : CaptureFault)
        → MayBeRefused types limits form name end rest fault → form.Follows end (fault_offset fault)
    refused_at end rest (Archive f) t = t.0
    refused_at end rest (LineTooLong o) t = rw (← t.1.2) (law.found end rest t.1.0 t.0 t.1.1)
    refused_at end rest (KeyTooLong o) t = rw (← t.1.2) (law.found end rest t.1.0 t.0 t.1.1)

pub accepted_is_whole : AcceptedIsWhole
accepted_is_whole types limits limit packing name archive captures a =
    as_whole types limits (form_to limit packing) name (forms_lawful limit packing) archive captures a

pub whole_is_not_refused : WholeIsNotRefused
whole_is_not_refused types limits limit packing name archive gained fault a t =
    not_refused types limits (form_to limit packing) name (forms_lawful limit packing) archive fault gained a t

pub one_indexed : OneIndexed
one_indexed types limits limit packing name archive a b v w =
    one_accepted types limits (form_to limit packing) name (forms_lawful limit packing) archive a b v w

-- where a plain archive is refused, a walk to the fault ends
pub ends_at : (types : Kind → Bool) (limits : Limits) (limit : ℕ) (name archive : List ℕ) (fault : CaptureFault)
    (captures : List EntryValue) → (v : IsAcceptedTo types limits (plain limit) name fault archive captures)
    → v.end ≡ fault_offset fault
ends_at types limits limit name archive fault captures v =
    plain_at limit v.end (fault_offset fault)
    (refused_at types limits (plain limit) name (plain_lawful limit) archive v.end v.rest fault v.refused)

pub one_indexed_to : OneIndexedTo
one_indexed_to types limits limit name archive fault a b v w =
    let same = ends_at types limits limit name archive fault a v
    ∙ sym (ends_at types limits limit name archive fault b w) in
    let records = same_records (plain limit) (plain_lawful limit) 0 archive v.records w.records w.end v.rest w.rest
    (rw same at v.walks) w.walks in
    captured_once types limits (plain limit) name v.records a b v.captured (rw records w.captured)
