-- The captures of the records in the members of a compressed archive.
use Rattle.archives.proofs.Words.{◌≡◌, ℕ, Bool, List, None, Some, Option, Result, Ok, Err, IfSome}
use Rattle.archives.proofs.Words.{HEAD_LIMIT, HeadView, Kind}
use Rattle.archives.proofs.Words.{Archive, CaptureFault, Cause, EntryValue, Reads, ap, arith, inl}
use Rattle.archives.proofs.Words.{refl, subst, sym, take, ◌∙◌}
use Rattle.std.proofs.Common.{IsSome, option_map}
use Rattle.warc_core.specs.declared.fault.Cause.TheVariants as causes
use Rattle.warc_core.specs.HeadView.{block_at}
use Rattle.warc_core.specs.Next.{next_at}
use Rattle.cdxj_core.specs.declared.limit.TheConstants.{LINE_LIMIT}
use Rattle.capture_core.specs.declared.fault.CaptureFault.TheVariants.{LineTooLong, KeyTooLong}
use Rattle.capture_core.specs.declared.place.Place.{Place}
use Rattle.capture_core.specs.Capture.{ArePartsUnder, IsCaptureUnder, PartsValue, entry_from}
use Rattle.capture_core.specs.CaptureAnswer.{GivesParts, HasUrl, usual_limits}
use Rattle.capture_core.specs.Fault.{fault_offset}
use Rattle.capture_core.specs.Indexed.{url_of}
use Rattle.capture_core.specs.RecordReading.{reading_after}
use Rattle.archives.specs.Captures.{IsCaptureFrom, MayBeRefused}
use Rattle.archives.specs.Form.{Comes, ComesRecord, Stored}
use Rattle.archives.specs.MemberCaptures.{AnswersLine, TakesCapture}
use Rattle.archives.specs.MemberReading.{HoldsHead, Left, OpensRecord}
use Rattle.archives.specs.declared.member_opening.OpenRecord.{OpenRecord}
use Rattle.gzip_members.specs.Reading.{Taken}
use Rattle.std.proofs.Common.{◌≤◌}
use Rattle.archives.specs.Packed.{packed}
use Rattle.archives.proofs.CaptureLemmas.{behind_head}
use Rattle.archives.proofs.PackedLemmas.{packed_follows}
use Rattle.archives.proofs.WalkingLemmas.{fault_later}

-- how the record was read by its fault: a refused growth leaves it read whole
pub reading_err : (f : List ℕ → Result (Unit {0} × List ℕ) Cause) (c : Cause) (before after : Option (List ℕ))
    → Reads f (reading_after c) before after → Reads f (Err c) before after
reading_err f causes.Memory None after r = tt
reading_err f causes.Memory (Some z) after r = inl refl
reading_err f c before after r = r

-- the entry of these parts is the capture
captured_under : (url : Option (List ℕ)) (limit few : ℕ) (place : Place) (h : HeadView) (block name : List ℕ)
    (parts : Option PartsValue) → ArePartsUnder url limit few h block parts
    → IsCaptureUnder url limit few place h block name (option_map (entry_from place name) parts)
captured_under None limit few place h block name parts p = ap (option_map (entry_from place name)) p
captured_under (Some url) limit few place h block name parts (given, (found, head, e), p) =
    (found, head, grind arith)

-- only a record under a URL has a capture
under_url : (url : Option (List ℕ)) (limit few : ℕ) (place at : Place) (h : HeadView) (block name : List ℕ)
    (parts : Option PartsValue) → IsSome parts
    → IsCaptureUnder url limit few place h block name (option_map (entry_from at name) parts) → IsSome url
under_url None limit few place at h block name None s c = absurd cc
under_url None limit few place at h block name (Some p) s c = absurd cc
under_url (Some url) limit few place at h block name parts s c = refl

-- the entry of these parts has their URL
pub line_url : (place : Place) (name : List ℕ) (parts : Option PartsValue) (url : Option (List ℕ))
    → option_map (λ p. p.url) parts ≡ url → HasUrl url (option_map (entry_from place name) parts)
line_url place name None url e = rw (← e) refl
line_url place name (Some p) url e = rw (← e) refl

-- where a record stands that has no line
pub line_at : (limit : ℕ) (place : Place) (name : List ℕ) (parts : Option PartsValue) (fault : CaptureFault)
    → AnswersLine limit place name parts (Err fault) → fault_offset fault ≡ place.offset
line_at limit place name parts (Archive f) a = a.0
line_at limit place name parts (LineTooLong o) a = a.0
line_at limit place name parts (KeyTooLong o) a = a.0

module _ (types : Kind → Bool) (name : List ℕ) where
  -- this is the capture of a record
  abbrev IsCaptured : Stored → Option EntryValue → Type 0
  IsCaptured = IsCaptureFrom types usual_limits (packed HEAD_LIMIT) name

  -- by the parts that the record in a text gives
  pub captured_there : (h : HeadView) (place : Place) (parts : Option PartsValue) (known before : Option (List ℕ))
      → Reads (next_at HEAD_LIMIT 0) (Ok (Some h)) known before
      → GivesParts (url_of types h) usual_limits h before (Ok parts)
      → IfSome known (λ text. IsCaptured (record { head = h; block = block_at h text; place = place })
      (option_map (entry_from place name) parts))
  captured_there h place parts None before r g = tt
  captured_there h place parts (Some text) None r g = absurd r
  captured_there h place parts (Some text) (Some y) r g =
      let same = ap (take h.parts.block_length) (behind_head HEAD_LIMIT 0 h text y r) in
      let limit = usual_limits.http_head in
      let few = usual_limits.http_fields in
      captured_under (url_of types h) limit few place h (block_at h text) name parts
      (subst (λ (block : List ℕ). ArePartsUnder (url_of types h) limit few h block parts) (sym same) g)

  refused_next : (start : ℕ) (bytes : List ℕ) (place : Place) (r : Stored) (after : Option (List ℕ))
      → place.offset ≡ start → r.place ≡ place
      → Comes (packed HEAD_LIMIT) start (Ok (Some r)) (Some bytes) after
      → (rest : List ℕ) × ((packed HEAD_LIMIT).next start bytes ≡ Ok (Some r, rest)) × (r.place.offset ≡ place.offset)
  refused_next start bytes place r None at is c = absurd c
  refused_next start bytes place r (Some rest) at is c = (rest, c, ap (λ (p : Place). p.offset) is)

  -- why a record that was read has no line
  pub line_refused : (start : ℕ) (bytes : List ℕ) (h : HeadView) (place : Place) (parts : Option PartsValue)
      (fault : CaptureFault) (after : Option (List ℕ)) → place.offset ≡ start
      → ComesRecord (packed HEAD_LIMIT) start (record { head = h; place = place })
      (λ r. IsCaptured r (option_map (entry_from place name) parts)) (Some bytes) after
      → AnswersLine LINE_LIMIT place name parts (Err fault)
      → MayBeRefused types usual_limits (packed HEAD_LIMIT) name start bytes fault
  line_refused start bytes h place parts (Archive f) after at comes (offset, memory) =
      (packed_follows HEAD_LIMIT start f.offset (omega arith), inl memory)
  line_refused start bytes h place parts (LineTooLong o) after at (r, placed, comes, captured)
      (offset, p, some, long) =
      let is : r.place ≡ place = ap (λ q. q.place) placed in
      let n = refused_next start bytes place r after at is comes in (
        r,
        (n.0, n.1, n.2 ∙ sym offset),
        entry_from place name p,
        subst (λ (c : Option PartsValue). IsCaptured r (option_map (entry_from place name) c)) some captured,
        long,
      )
  line_refused start bytes h place parts (KeyTooLong o) after at (r, placed, comes, captured) (offset, some) =
      let is : r.place ≡ place = ap (λ q. q.place) placed in
      let n = refused_next start bytes place r after at is comes in (
        r,
        (n.0, n.1, n.2 ∙ sym offset),
        under_url (url_of types r.head) usual_limits.http_head
            usual_limits.http_fields r.place place r.head r.block name parts some captured,
      )

  -- what was refused at an offset is refused at an earlier one, with members without text between
  -- them
  refused_later : (offset start : ℕ) (bytes later : List ℕ) (fault : CaptureFault) → offset ≤ start
      → (packed HEAD_LIMIT).next offset bytes ≡ (packed HEAD_LIMIT).next start later
      → MayBeRefused types usual_limits (packed HEAD_LIMIT) name start later fault
      → MayBeRefused types usual_limits (packed HEAD_LIMIT) name offset bytes fault
  refused_later offset start bytes later (Archive f) onward same m =
      fault_later offset start bytes later f onward same m
  refused_later offset start bytes later (LineTooLong o) onward same (r, (rest, e, at), entry, is, long) =
      (r, (rest, same ∙ e, at), entry, is, long)
  refused_later offset start bytes later (KeyTooLong o) onward same (r, (rest, e, at), more) =
      (r, (rest, same ∙ e, at), more)

  -- why the record that comes next was refused
  pub taken_refused : (offset : ℕ) (r : OpenRecord) (left : Option Left) (mid : Taken)
      (ahead before after : Option (List ℕ)) (fault : CaptureFault) → offset ≤ r.start
      → IfSome before (λ bytes. OpensRecord offset bytes (Ok (Some r)) left mid ahead)
      → ((bytes : List ℕ) → HoldsHead r.start bytes r.head left mid ahead
      → TakesCapture types name r.start bytes (Err fault) after)
      → IfSome before (λ bytes. MayBeRefused types usual_limits (packed HEAD_LIMIT) name offset bytes fault)
  taken_refused offset r left mid ahead None after fault onward o t = tt
  taken_refused offset r left mid ahead (Some bytes) after fault onward (later, same, holds) t =
      refused_later offset r.start bytes later fault onward same (t later holds)
