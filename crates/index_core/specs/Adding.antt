-- What the addition of an archive makes of what an indexer holds.
use Rattle.std.specs.Prelude.{◌≡◌, ℕ, ⊤, Bool, List, [], ◌∷◌, ◌++◌, length, flat_map, option_to_list, Option, Result, Ok}
use Rattle.std.specs.Prelude.{Err, IfSome}
use Rattle.std.specs.List.{AllByRecursion}
use Rattle.warc_core.specs.Kind.{Kind}
use Rattle.cdxj_core.specs.Entries.{EntryValue}
use Rattle.capture_core.specs.declared.fault.CaptureFault.{CaptureFault}
use Rattle.capture_core.specs.CaptureAnswer.{HasUrl, IsEntryOf, Limits}
use Rattle.capture_core.specs.Fault.{fault_offset}
use Rattle.capture_core.specs.Indexed.{url_of}
use Rattle.index_core.specs.declared.fault.IndexFault.{IndexFault}
use Rattle.index_core.specs.declared.fault.IndexFault.TheVariants as faults
use Rattle.archives.specs.Form.{Follow, Form, Placed}
use Rattle.index_core.specs.Accepted.{IsAccepted, IsAcceptedTo}
use Rattle.index_core.specs.Indexing.{Held}

-- what is held with one more archive
abbrev pub with_archive : List ℕ → List EntryValue → Held → Held
with_archive name captures held = record held { names = held.names ++ name ∷ []; captures = held.captures ++ captures }

-- the types of records that are indexed, the limits of captures, the form of the archive, and its name
module _ (types : Kind → Bool) (limits : Limits) (form : Form) (name : List ℕ) where
  -- what the head of a record says of its capture: there is one if the record is indexed, for its URL and its place
  abbrev pub SaysCapture : Placed × Option EntryValue → Type 0
  SaysCapture (p, captured) = HasUrl (url_of types p.head) captured
      × IfSome captured (IsEntryOf p.place p.head name limits.line)

  -- records that follow one another from the start up to `end`, and these are their captures, as their heads say
  pub record AreByHeads (end : ℕ) (captures : List EntryValue) : Type 0 where
    pub records : List (Placed × Option EntryValue)
    pub follow : Follow form (λ r. r.0) 0 records end
    pub said : AllByRecursion SaysCapture records
    pub captures_are : captures ≡ flat_map (λ r. option_to_list r.1) records

  -- which captures a list gains from an archive, and the number that is answered
  abbrev pub Gains : Option (List ℕ) → List EntryValue → Result ℕ CaptureFault → Type 0
  Gains left captures (Ok n) = (n ≡ length captures) × ((end : ℕ) × AreByHeads end captures)
      × IfSome left (λ archive. IsAccepted types limits form name archive captures)
  Gains left captures (Err fault) = ((end : ℕ) × AreByHeads end captures × form.Follows end (fault_offset fault))
      × IfSome left (λ archive. IsAcceptedTo types limits form name fault archive captures)

  -- what an addition makes of what an indexer holds
  abbrev pub Adds : Option (List ℕ) → Held → Held → Result ℕ IndexFault → Type 0
  Adds left old new (Ok n) = (captures : List EntryValue) × (new ≡ with_archive name captures old)
      × Gains left captures (Ok n)
  Adds left old new (Err (faults.Capture fault)) = (captures : List EntryValue) × (new ≡ with_archive name captures old)
      × Gains left captures (Err fault)
  Adds left old new (Err faults.Write) = ⊥
  Adds left old new (Err faults.NoRecord) = ⊥
  Adds left old new (Err refusal) = new ≡ old

-- an archive is refused by its name, for want of memory, or by what its captures end with
abbrev pub IsAddFault : IndexFault → Type 0
IsAddFault faults.BadName = ⊤
IsAddFault faults.DuplicateName = ⊤
IsAddFault faults.Memory = ⊤
IsAddFault (faults.Capture fault) = ⊤
IsAddFault other = ⊥

-- the archive was refused before anything was read of it
abbrev pub IsRefusal : IndexFault → Type 0
IsRefusal (faults.Capture fault) = ⊥
IsRefusal refusal = ⊤
