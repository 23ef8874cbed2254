-- The captures of records, read one after another.
use Rattle.std.specs.Prelude.{◌≡◌, ℕ, ◌<◌, Bool, List, length, Option, None, Some, Result, Ok, Err, IfSome, IsSome}
use Rattle.warc_core.specs.Answers.{CountsRead}
use Rattle.warc_core.specs.Kind.{Kind}
use Rattle.cdxj_core.specs.Entries.{EntryValue, line_text}
use Rattle.capture_core.specs.declared.fault.CaptureFault.{CaptureFault}
use Rattle.capture_core.specs.declared.fault.CaptureFault.TheVariants.{Archive, LineTooLong, KeyTooLong}
use Rattle.capture_core.specs.Capture.{IsCapture}
use Rattle.capture_core.specs.Fault.{fault_offset}
use Rattle.capture_core.specs.CaptureAnswer.{HasUrl, Limits, IsEntryOf}
use Rattle.capture_core.specs.Indexed.{url_of}
use Rattle.archives.specs.Form.{Form, Placed, Stored, Comes, ComesRecord, IsPossibleFault, StandsFrom}

-- the types of records that are indexed, the limits of captures, the form of the archive, and its name
module _ (types : Kind → Bool) (limits : Limits) (form : Form) (name : List ℕ) where
  -- the capture of a record
  abbrev pub IsCaptureFrom : Stored → Option EntryValue → Type 0
  IsCaptureFrom r captured = IsCapture types limits.http_head limits.http_fields r.place r.head r.block name captured

  -- this record comes next at the offset, with these bytes from there on, and it stands at the other
  abbrev pub IsNext : ℕ → List ℕ → ℕ → Stored → Type 0
  IsNext offset bytes at r = (rest : List ℕ) × (form.next offset bytes ≡ Ok (Some r, rest)) × (r.place.offset ≡ at)

  -- why no capture is taken of what comes next at this offset with these bytes: no record does, or its line is too long,
  -- or its key
  abbrev pub MayBeRefused : ℕ → List ℕ → CaptureFault → Type 0
  MayBeRefused offset bytes (Archive f) = IsPossibleFault form offset bytes f
  MayBeRefused offset bytes (LineTooLong o) = (r : Stored) × IsNext offset bytes o r
      × (e : EntryValue) × IsCaptureFrom r (Some e) × (limits.line < length (line_text e))
  MayBeRefused offset bytes (KeyTooLong o) = (r : Stored) × IsNext offset bytes o r × IsSome (url_of types r.head)

  -- a record that comes at the offset was read to its end, and this is its capture
  pub record TakesRecord (offset : ℕ) (p : Placed) (captured : Option EntryValue) (before after : Option (List ℕ)) :
      Type 0 where
    pub comes : ComesRecord form offset p (λ r. IsCaptureFrom r captured) before after
    pub stands : StandsFrom form offset p
    pub entry : IfSome captured (IsEntryOf p.place p.head name limits.line)
    pub under : HasUrl (url_of types p.head) captured

  -- what comes next at the offset was read, or refused
  abbrev pub TakesNext : ℕ → Result (Option (Placed × Option EntryValue)) CaptureFault → Option (List ℕ)
      → Option (List ℕ) → Type 0
  TakesNext offset (Ok None) before after = Comes form offset (Ok None) before after
  TakesNext offset (Ok (Some (p, captured))) before after = TakesRecord offset p captured before after
  TakesNext offset (Err fault) before after = form.Follows offset (fault_offset fault)
      × IfSome before (λ bytes. MayBeRefused offset bytes fault)

-- An answer of Read goes with one more failure of the input, any other with none.
abbrev pub CountsCapture : {A : Type 0} → Result A CaptureFault → ℕ → ℕ → Type 0
CountsCapture (Err (Archive f)) old new = CountsRead {A = Unit {0}} (Err f.cause) old new
CountsCapture r old new = new ≡ old
