-- How archives keep their records: what comes next at an offset.
use Rattle.std.specs.Prelude.{◌≡◌, ◌⊎◌, ℕ, ◌+◌, ◌-◌, ◌^◌, ◌<◌, ◌≤◌, ⊤, List, [], ◌∷◌, length, Option, None, Some, Result, Ok, Err}
use Rattle.warc_core.specs.declared.fault.Cause.{Cause}
use Rattle.warc_core.specs.declared.fault.Cause.TheVariants as causes
use Rattle.warc_core.specs.declared.fault.Fault.{Fault}
use Rattle.warc_core.specs.HeadView.{HeadView, block_at}
use Rattle.warc_core.specs.Walk.{record_at}
use Rattle.capture_core.specs.declared.place.Place.{Place}
use Rattle.capture_core.specs.Capture.{plain_place}
use Rattle.archives.specs.declared.placed_record.PlacedRecord.{PlacedRecord}

-- a record of an archive, with its block and its place
pub record Stored : Type 0 where
  pub head : HeadView
  pub block : List ℕ
  pub place : Place

-- a record, as far as a call answers it
abbrev pub Placed : Type 0
Placed = PlacedRecord

abbrev pub placed_of : Stored → Placed
placed_of r = record { head = r.head; place = r.place }

-- where what stands at a place ends
abbrev pub end_of : Place → ℕ
end_of place = place.offset + place.length

-- A form of archives.
pub record Form : Type 1 where
  -- what comes next at an offset, with these bytes from there on: a record, the end or a fault; and what is left
  pub next : ℕ → List ℕ → Result (Option Stored × List ℕ) Fault
  -- what is found by a call that begins at the one offset may begin at the other
  pub Follows : ℕ → ℕ → Type 0
  -- a record with this head may have this place
  pub MayStand : HeadView → Place → Type 0

-- ---- plain archives

-- the record with this head that begins these bytes
abbrev pub plain_record : HeadView → List ℕ → Stored
plain_record h bytes = record { head = h; block = block_at h bytes; place = plain_place h }

-- the record with this head, and its place
abbrev pub plain_placed : HeadView → Placed
plain_placed h = record { head = h; place = plain_place h }

-- what was read of the bytes from an offset on, with its place
abbrev pub plain_next : ℕ → List ℕ → Result (Option HeadView × List ℕ) Cause → Result (Option Stored × List ℕ) Fault
plain_next offset bytes (Ok (None, rest)) = Ok (None, rest)
plain_next offset bytes (Ok (Some h, rest)) = Ok (Some (plain_record h bytes), rest)
plain_next offset bytes (Err c) = Err (record { offset = offset; cause = c })

-- An archive is plain: its records stand one after another, with heads of at most this length.
unfoldable pub plain : ℕ → Form
plain limit = record {
  next = λ offset bytes. plain_next offset bytes (record_at limit offset bytes);
  Follows = λ from to. from ≡ to;
  MayStand = λ h place. place ≡ plain_place h;
}

-- ---- what every form owes

-- What comes next isn't before the offset, and ends by the greatest offset. The end leaves nothing, and a record less.
pub record IsLawful (form : Form) : Type 0 where
  pub here : (offset : ℕ) → form.Follows offset offset
  pub further : (from mid to : ℕ) → form.Follows from mid → form.Follows mid to → form.Follows from to
  pub onward : (from to : ℕ) → form.Follows from to → from ≤ to
  pub found : (offset : ℕ) (bytes rest : List ℕ) (r : Stored) → form.next offset bytes ≡ Ok (Some r, rest)
      → form.Follows offset r.place.offset
  pub stands : (offset : ℕ) (bytes rest : List ℕ) (r : Stored) → form.next offset bytes ≡ Ok (Some r, rest)
      → form.MayStand r.head r.place
  pub filled : (offset : ℕ) (bytes rest : List ℕ) (r : Stored) → form.next offset bytes ≡ Ok (Some r, rest)
      → 0 < r.place.length
  pub fewer : (offset : ℕ) (bytes rest : List ℕ) (r : Stored) → form.next offset bytes ≡ Ok (Some r, rest)
      → length rest < length bytes
  pub ended : (offset : ℕ) (bytes rest : List ℕ) → form.next offset bytes ≡ Ok (None, rest) → rest ≡ []
  pub failed : (offset : ℕ) (bytes : List ℕ) (f : Fault) → form.next offset bytes ≡ Err f → form.Follows offset f.offset

-- ---- records, one after another

module _ (form : Form) where
  -- These are whole records that stand one after another from this offset on. What comes next is found from `end` on,
  -- where these bytes are left.
  abbrev pub WalksOver : ℕ → List ℕ → List Stored → ℕ → List ℕ → Type 0
  WalksOver start bytes [] end rest = (end ≡ start) × (rest ≡ bytes)
  WalksOver start bytes (r ∷ records) end rest = (later : List ℕ) × (form.next start bytes ≡ Ok (Some r, later))
      × WalksOver (end_of r.place) later records end rest

  -- the archive is these records and no more
  pub record ConsistsOf (archive : List ℕ) (records : List Stored) : Type 0 where
    pub end : ℕ
    pub rest : List ℕ
    pub walks : WalksOver 0 archive records end rest
    pub ended : form.next end rest ≡ Ok (None, [])

  -- the archive is these records, and then what is no record for this fault
  pub record BreaksAfter (archive : List ℕ) (records : List Stored) (f : Fault) : Type 0 where
    pub end : ℕ
    pub rest : List ℕ
    pub walks : WalksOver 0 archive records end rest
    pub refused : form.next end rest ≡ Err f

  -- a fault where what comes next is read, which the bytes give unless memory is wanting or the input has failed
  abbrev pub IsPossibleFault : ℕ → List ℕ → Fault → Type 0
  IsPossibleFault offset bytes f = form.Follows offset f.offset
      × ((f.cause ≡ causes.Memory) ⊎ ((f.cause ≡ causes.Read) ⊎ (form.next offset bytes ≡ Err f)))

  -- A call that began at the offset answered what comes next at the front of the known bytes, and left the bytes after
  -- it.
  abbrev pub Comes : ℕ → Result (Option Stored) Fault → Option (List ℕ) → Option (List ℕ) → Type 0
  Comes offset r None after = ⊤
  Comes offset (Ok x) (Some bytes) None = ⊥
  Comes offset (Ok x) (Some bytes) (Some rest) = form.next offset bytes ≡ Ok (x, rest)
  Comes offset (Err f) (Some bytes) after = IsPossibleFault offset bytes f

  -- it answered a record, of which this holds
  abbrev pub ComesRecord : ℕ → Placed → (Stored → Type 0) → Option (List ℕ) → Option (List ℕ) → Type 0
  ComesRecord offset p P None after = ⊤
  ComesRecord offset p P (Some bytes) after = (r : Stored) × (placed_of r ≡ p)
      × Comes offset (Ok (Some r)) (Some bytes) after × P r

  -- of bytes that may not be known: a record that is found from an offset on, and ends by the greatest offset
  pub record StandsFrom (from : ℕ) (p : Placed) : Type 0 where
    pub follows : form.Follows from p.place.offset
    pub stands : form.MayStand p.head p.place
    pub filled : 0 < p.place.length
    pub fits : end_of p.place ≤ 2 ^ 63 - 1

  -- records of which each is found where the one before it ends, from one offset to another
  abbrev pub Follow : {X : Type 0} → (X → Placed) → ℕ → List X → ℕ → Type 0
  Follow placed from [] to = form.Follows from to
  Follow placed from (x ∷ items) to = StandsFrom from (placed x)
      × Follow placed (end_of (placed x).place) items to
