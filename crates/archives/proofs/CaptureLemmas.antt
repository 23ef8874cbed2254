-- The capture of a record that begins the bytes of a plain archive, or why it has none.
use Rattle.archives.proofs.Words.{arith, ◌≡◌, ◌∙◌, ℕ, ◌<◌, Bool, List, Option}
use Rattle.archives.proofs.Words.{None, Some, Ok, Err, IfSome, HEAD_LIMIT, length, drop, ap, inl, refl, sym}
use Rattle.archives.proofs.Words.{drop-append_seam, Kind, HeadView, Archive, Fault}
use Rattle.archives.proofs.Words.{Reads, after_record, next-spelled, read-spelled}
use Rattle.archives.proofs.Words.{record-unclosed, record-whole, EntryValue, CaptureFault, Limits, record-stopped}
use Rattle.std.proofs.Common.{IsSome}
use Rattle.warc_core.specs.Next.{next_at}
use Rattle.warc_core.specs.Reading.{IsPossibleCause}
use Rattle.warc_core.specs.Walk.{record_at}
use Rattle.cdxj_core.specs.Entries.{line_text}
use Rattle.capture_core.specs.Capture.{plain_place}
use Rattle.capture_core.specs.CaptureAnswer.{Captures}
use Rattle.capture_core.specs.Fault.{fault_offset}
use Rattle.capture_core.specs.Indexed.{url_of}
use Rattle.capture_core.specs.RecordReading.{IsCaptureFaultAt, reading_of}
use Rattle.capture_core.specs.declared.fault.CaptureFault.TheVariants.{LineTooLong, KeyTooLong}
use Rattle.archives.specs.Captures.{IsCaptureFrom, IsNext, MayBeRefused}
use Rattle.archives.specs.Form.{plain, plain_record}
use Rattle.archives.specs.Plain.{no_memory}
use Rattle.archives.proofs.PlainLemmas.{plain_follows, plain_possible, plain_reads, some_of}

-- what stands behind a head
pub behind_head : (limit start : ℕ) (h : HeadView) (z y : List ℕ) → next_at limit start z ≡ Ok (Some h, y)
    → drop (length h.raw) z ≡ y
behind_head limit start h z y r = ap (drop (length h.raw)) (next-spelled limit start z y h r).0
    ∙ drop-append_seam h.raw y

-- where the record at fault begins
pub capture_fault_at : (start : ℕ) (fault : CaptureFault) → IsCaptureFaultAt start fault → fault_offset fault ≡ start
capture_fault_at start (Archive f) at = at
capture_fault_at start (LineTooLong o) at = at
capture_fault_at start (KeyTooLong o) at = at

-- why the record that begins these bytes has no capture, in a plain archive
abbrev pub WhyRefused : (Kind → Bool) → Limits → ℕ → List ℕ → ℕ → List ℕ → CaptureFault → Type 0
WhyRefused types limits limit name start bytes (Archive f) = IsPossibleCause f.cause (record_at limit start bytes)
WhyRefused types limits limit name start bytes (LineTooLong o) =
    (h : HeadView) × (rest : List ℕ) × (record_at limit start bytes ≡ Ok (Some h, rest))
    × (e : EntryValue) × IsCaptureFrom types limits (plain limit) name (plain_record h bytes) (Some e)
    × (limits.line < length (line_text e))
WhyRefused types limits limit name start bytes (KeyTooLong o) = (h : HeadView) × (rest : List ℕ)
    × (record_at limit start bytes ≡ Ok (Some h, rest)) × IsSome (url_of types h)

module _ (types : Kind → Bool) (limits : Limits) (limit : ℕ) (name : List ℕ) where
  -- a record's capture is that of the record which begins the bytes
  pub capture_there : (start : ℕ) (h : HeadView) (captured : Option EntryValue) (before mid after : Option (List ℕ))
      → Reads (next_at limit start) (Ok (Some h)) before mid
      → Reads (after_record h.parts.block_length) (Ok tt) mid after
      → Captures (url_of types h) limits (plain_place h) h name mid (Ok captured)
      → IfSome before (λ bytes. IsCaptureFrom types limits (plain limit) name (plain_record h bytes) captured)
  capture_there start h captured before mid after r s k = grind (arith, behind_head)

  -- why no record was read
  pub stopped_there : (start : ℕ) (f : Fault) (before after : Option (List ℕ)) → f.offset ≡ start
      → Reads (next_at limit start) (Err f.cause) before after
      → IfSome before (λ bytes. MayBeRefused types limits (plain limit) name start bytes (Archive f))
  stopped_there start f None after at r = tt
  stopped_there start f (Some z) after at r =
      plain_possible limit start z f at (record-stopped limit start (Some z) after after f.cause r)

  -- why a record that was read has no capture
  why_there : (start : ℕ) (h : HeadView) (fault : CaptureFault) (before mid after : Option (List ℕ))
      → Reads (next_at limit start) (Ok (Some h)) before mid
      → Reads (after_record h.parts.block_length) (reading_of {A = Option EntryValue} (Err fault)) mid after
      → Captures (url_of types h) limits (plain_place h) h name mid (Err fault)
      → IfSome before (λ bytes. WhyRefused types limits limit name start bytes fault)
  why_there start h fault before mid after r s k = grind (arith, record-whole, behind_head, record-unclosed)

  next_is : (start : ℕ) (bytes rest : List ℕ) (h : HeadView) (o : ℕ) → record_at limit start bytes ≡ Ok (Some h, rest)
      → o ≡ start → IsNext types limits (plain limit) name start bytes o (plain_record h bytes)
  next_is start bytes rest h o e at =
      let s = read-spelled limit start bytes rest h e in
      (rest, plain_reads limit start bytes rest h e, s.2.start_is ∙ sym at)

  as_refused : (start : ℕ) (bytes : List ℕ) (fault : CaptureFault) → IsCaptureFaultAt start fault
      → WhyRefused types limits limit name start bytes fault
      → MayBeRefused types limits (plain limit) name start bytes fault
  as_refused start bytes (Archive f) at w = plain_possible limit start bytes f at w
  as_refused start bytes (LineTooLong o) at (h, rest, e, entry, is, long) =
      (plain_record h bytes, next_is start bytes rest h o e at, entry, is, long)
  as_refused start bytes (KeyTooLong o) at (h, rest, e, more) =
      (plain_record h bytes, next_is start bytes rest h o e at, more)

  pub refused_there : (start : ℕ) (h : HeadView) (fault : CaptureFault) (before mid after : Option (List ℕ))
      → IsCaptureFaultAt start fault → Reads (next_at limit start) (Ok (Some h)) before mid
      → Reads (after_record h.parts.block_length) (reading_of {A = Option EntryValue} (Err fault)) mid after
      → Captures (url_of types h) limits (plain_place h) h name mid (Err fault)
      → IfSome before (λ bytes. MayBeRefused types limits (plain limit) name start bytes fault)
  refused_there start h fault None mid after at r s k = tt
  refused_there start h fault (Some bytes) mid after at r s k =
      as_refused start bytes fault at (why_there start h fault (Some bytes) mid after r s k)

-- there was no memory for a reader
pub memory_refuses : (types : Kind → Bool) (limits : Limits) (name : List ℕ) (f : Fault) → f ≡ no_memory
    → (before : Option (List ℕ))
    → (plain HEAD_LIMIT).Follows f.offset f.offset
    × IfSome before (λ bytes. MayBeRefused types limits (plain HEAD_LIMIT) name f.offset bytes (Archive f))
memory_refuses types limits name f e before = (
  plain_follows HEAD_LIMIT f.offset f.offset refl,
  some_of before (λ bytes. plain_possible HEAD_LIMIT f.offset bytes f refl (inl (ap (λ f. f.cause) e))),
)
