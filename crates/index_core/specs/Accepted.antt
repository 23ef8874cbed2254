-- The captures of an archive that is accepted, whole or up to a fault.
use Rattle.std.specs.Prelude.{◌≡◌, ℕ, ◌≤◌, Bool, List, [], ◌∷◌, ◌++◌, length, option_to_list, Option, IfSome}
use Rattle.std.specs.List.{AllByRecursion}
use Rattle.warc_core.specs.Kind.{Kind}
use Rattle.cdxj_core.specs.Entries.{EntryValue, line_text}
use Rattle.capture_core.specs.declared.fault.CaptureFault.{CaptureFault}
use Rattle.capture_core.specs.CaptureAnswer.{Limits}
use Rattle.archives.specs.Captures.{IsCaptureFrom, MayBeRefused}
use Rattle.archives.specs.Form.{Form, Stored, ConsistsOf, WalksOver}

-- the types of records that are indexed, the limits of captures, the form of the archive, and its name
module _ (types : Kind → Bool) (limits : Limits) (form : Form) (name : List ℕ) where
  -- the capture of a record, with a line that isn't too long
  abbrev pub IsCaptured : Stored → Option EntryValue → Type 0
  IsCaptured r captured = IsCaptureFrom types limits form name r captured
      × IfSome captured (λ e. length (line_text e) ≤ limits.line)

  -- the captures of these records
  abbrev pub AreCaptured : List Stored → List EntryValue → Type 0
  AreCaptured [] captures = captures ≡ []
  AreCaptured (r ∷ records) captures =
      (captured : Option EntryValue) × (others : List EntryValue) × IsCaptured r captured
      × AreCaptured records others × (captures ≡ option_to_list captured ++ others)

  -- The archive is accepted whole, with these captures.
  pub record IsAccepted (archive : List ℕ) (captures : List EntryValue) : Type 0 where
    pub records : List Stored
    pub whole : ConsistsOf form archive records
    pub captured : AreCaptured records captures

  -- The archive is accepted up to the fault, with these captures of the whole records before it.
  pub record IsAcceptedTo (fault : CaptureFault) (archive : List ℕ) (captures : List EntryValue) : Type 0 where
    pub records : List Stored
    pub end : ℕ
    pub rest : List ℕ
    pub walks : WalksOver form 0 archive records end rest
    pub captured : AreCaptured records captures
    pub refused : MayBeRefused types limits form name end rest fault

  -- a line that isn't too long
  abbrev pub FitsLine : EntryValue → Type 0
  FitsLine e = length (line_text e) ≤ limits.line

  -- no capture of this record is refused
  abbrev pub IsTaken : Stored → Type 0
  IsTaken r = (captured : Option EntryValue) → IsCaptureFrom types limits form name r captured → IfSome captured FitsLine

  -- The archive is accepted whole: it is records, and no capture of them is refused.
  pub record IsAcceptedWhole (archive : List ℕ) : Type 0 where
    pub records : List Stored
    pub whole : ConsistsOf form archive records
    pub taken : AllByRecursion IsTaken records
