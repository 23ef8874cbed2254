-- The walk to an offset of an archive, and the copying of the record there.
use Rattle.std.specs.Prelude.{◌≡◌, ℕ, ◌+◌, ◌≤◌, ⊤, ◌⊎◌, List, [], ◌++◌, length, take, Option, None, Some, Result, Ok}
use Rattle.std.specs.Prelude.{Err, IfSome, Bool, true, false}
use Rattle.std.specs.Io.KnownBytes.{Appends, Consumes, prepend_known}
use Rattle.warc_core.specs.declared.fault.Fault.{Fault}
use Rattle.warc_core.specs.declared.phase.Phase.TheVariants.{Between, Open}
use Rattle.devices.specs.Device.{AppendsPrefix}
use Rattle.warc_core.specs.HeadView.{HeadView, record_length}
use Rattle.warc_core.specs.Reading.{Reads, IsPossibleCause}
use Rattle.warc_core.specs.ReaderView.{ReaderView, ReaderState, StandsAt, ahead}
use Rattle.warc_core.specs.Record.{after_record}
use Rattle.warc_core.specs.Walk.{record_at, Walks}
use Rattle.capture_core.specs.declared.fault.CaptureFault.TheVariants.{Archive}
use Rattle.index_core.specs.declared.fault.IndexFault.{IndexFault}
use Rattle.index_core.specs.declared.fault.IndexFault.TheVariants as faults
use Rattle.index_core.specs.Fetching.{IsInRecord, IsBehindRecords, StopsAt, most_written_at}

-- The output grew by a front of the known bytes, of n bytes at most.
pub record WroteFront (n : ℕ) (known old new : Option (List ℕ)) : Type 0 where
  pub front : List ℕ
  pub most : length front ≤ n
  pub begins : IfSome known (λ bytes. (more : List ℕ) × (bytes ≡ front ++ more))
  pub grown : Appends old new front

-- how the copying of a record ended, by the front of it that was written
abbrev pub EndsRecord : HeadView → List ℕ → Result ℕ IndexFault → Option (List ℕ) → Option (List ℕ) → Type 0
EndsRecord h front (Ok n) before after = (n ≡ length front) × (n ≡ record_length h)
    × Reads (after_record h.parts.block_length) (Ok tt) before after
EndsRecord h front (Err (faults.Capture (Archive f))) before after = (f.offset ≡ h.start)
    × Reads (after_record h.parts.block_length) (Err f.cause) before after
EndsRecord h front (Err faults.Write) before after = ⊤
EndsRecord h front (Err other) before after = ⊥

-- a record was copied, or its front; its head was read before
pub record CopiesRecord (h : HeadView) (r : Result ℕ IndexFault) (before after written written' : Option (List ℕ)) :
    Type 0 where
  pub wrote : WroteFront (record_length h) (prepend_known h.raw before) written written'
  pub ends : EndsRecord h wrote.front r before after

-- A head and what follows it of its block were copied, but for so many bytes.
pub record CopiedBut (rest : ℕ) (h : HeadView) (before : Option (List ℕ)) (now : ReaderState)
    (written written' : Option (List ℕ)) : Type 0 where
  pub front : List ℕ
  pub whole : length front + rest ≡ h.parts.block_length
  pub given : Consumes before (ahead now) front
  pub stands : StandsAt now.reader h.start (Open rest (record_length h))
  pub grown : Appends written written' (h.raw ++ front)

-- a head and its block were copied, or a front of the record
abbrev pub CopiesHeadAndBlock : HeadView → Result (Unit {0}) IndexFault → Option (List ℕ) → ReaderState
    → Option (List ℕ) → Option (List ℕ) → Type 0
CopiesHeadAndBlock h (Ok u) before now written written' = CopiedBut 0 h before now written written'
CopiesHeadAndBlock h (Err fault) before now written written' =
    CopiesRecord h (Err fault) before (ahead now) written written'

-- what comes next at the offset was copied
abbrev pub CopiesNext : ℕ → ℕ → Result ℕ IndexFault → Option (List ℕ) → Option (List ℕ) → Option (List ℕ) → Type 0
CopiesNext limit offset (Ok n) before written written' =
    (text : List ℕ) × (n ≡ length text) × Appends written written' text
    × IfSome before (λ bytes. (h : HeadView) × (rest : List ℕ) × (record_at limit offset bytes ≡ Ok (Some h, rest))
    × (text ≡ take (record_length h) bytes))
CopiesNext limit offset (Err faults.NoRecord) before written written' = IfSome before (λ bytes. bytes ≡ [])
CopiesNext limit offset (Err (faults.Capture (Archive f))) before written written' =
    (f.offset ≡ offset) × IfSome before (λ bytes. IsPossibleCause f.cause (record_at limit offset bytes)
    × AppendsPrefix written written' (most_written_at limit offset bytes))
CopiesNext limit offset (Err faults.Write) before written written' = IfSome before
    (λ bytes. AppendsPrefix written written' (most_written_at limit offset bytes))
CopiesNext limit offset (Err other) before written written' = ⊥

-- whole records fill the archive up to the offset, and these bytes follow them
abbrev pub WalkedTo : ℕ → ℕ → Option (List ℕ) → Option (List ℕ) → Type 0
WalkedTo limit offset None now = ⊤
WalkedTo limit offset (Some archive) None = ⊥
WalkedTo limit offset (Some archive) (Some rest) = (heads : List HeadView) × Walks limit 0 archive heads offset rest

-- a reader of an archive that had these bytes came to the offset, where it has these left, or it is no end of a record
abbrev pub Reaches : ℕ → ℕ → Result Bool Fault → ReaderView → Option (List ℕ) → Option (List ℕ) → Type 0
Reaches limit offset (Ok true) reader left now = StandsAt reader offset Between × WalkedTo limit offset left now
Reaches limit offset (Ok false) reader left now = IfSome left (λ archive. IsInRecord limit archive offset
    ⊎ IsBehindRecords limit archive offset)
Reaches limit offset (Err f) reader left now = (f.offset ≤ offset)
    × IfSome left (λ archive. StopsAt limit archive offset f)
