-- The capture of a record, from how its block was read.
use Rattle.std.proofs.Common.{◌≡◌, ℕ, ◌-◌, ◌≤◌, List, [], ◌++◌, Option, None, Some, Result, Ok, Err}
use Rattle.std.proofs.Common.{IfOk, IfSome, IsSome, length, take, refl, arith}
use Rattle.std.proofs.lemmas.List.{length-take}
use Rattle.sha1.specs.Sha1.{sha1}
use Rattle.warc_core.specs.HeadView.{HeadView}
use Rattle.warc_core.specs.Answers.{CountsRead}
use Rattle.warc_core.specs.Cause.{StopsRecord}
use Rattle.warc_core.specs.Reading.{Reads}
use Rattle.warc_core.proofs.ReadingLemmas.{GoesOn}
use Rattle.warc_core.specs.ReaderView.{FailedBy, ReaderState, ahead}
use Rattle.warc_core.specs.Record.{after_record}
use Rattle.warc_core.specs.declared.fault.Cause.{Cause}
use Rattle.warc_core.specs.declared.fault.Fault.{Fault}
use Rattle.cdxj_core.specs.Entries.{EntryValue}
use Rattle.capture_core.specs.declared.fault.CaptureFault.{CaptureFault}
use Rattle.capture_core.specs.declared.fault.CaptureFault.TheVariants.{Archive, LineTooLong, KeyTooLong}
use Rattle.warc_core.specs.Base32.{base32_of}
use Rattle.warc_core.specs.RestDigest.{digest_of_rest}
use Rattle.capture_core.specs.declared.block_parts.BlockParts.{BlockParts}
use Rattle.capture_core.specs.declared.place.Place.{Place}
use Rattle.capture_core.specs.BlockParts.{block_given, block_view}
use Rattle.capture_core.specs.Capture.{BlockValue, IsFilled, PartsValue, ResponseValue, ArePartsUnder, IsBlockOf, IsCaptureUnder}
use Rattle.capture_core.specs.Capture.{block_of, digest_of, entry_from, known_digest, parts_of}
use Rattle.capture_core.specs.RecordReading.{reading_after, ReadsRest}
use Rattle.capture_core.specs.CaptureAnswer.{Limits, AnswersEntry, Captures, GivesBehind, GivesParts}
use Rattle.capture_core.specs.CaptureAnswer.{PartsBlock}
use Rattle.warc_core.proofs.DigestLemmas.{take_past}
use Rattle.warc_core.proofs.VerdictLemmas.{digest-then}

-- ---- how the record was read

-- a fault that ends the reading of a record is no refused growth
after-stop : (c : Cause) → StopsRecord c → reading_after c ≡ Err c
after-stop c s = grind arith

counts-too : (A B : Type 0) (c : Cause) (old new : ℕ) → CountsRead {A = A} (Err c) old new
    → CountsRead {A = B} (Err c) old new
counts-too A B c old new k = grind arith

-- a call failed by what it met in the record
pub stopped : (A B : Type 0) (left : ℕ) (h : HeadView) (old new : ReaderState) (f : Fault)
    → Reads (after_record left) (Err f.cause) (ahead old) (ahead new) → FailedBy new.reader h.start f
    → StopsRecord f.cause → CountsRead {A = B} (Err f.cause) old.failures new.failures
    → ReadsRest {A = A} left h old new (Err f)
stopped A B left h old new f b w s k =
    let e = after-stop f.cause s in
    record {
      reads = record {
        bytes = rw e b;
        state = rw e w.stands;
        cause = rw e s;
        failures = rw e (counts-too B (Unit {0}) f.cause old.failures new.failures k);
      };
      fault = w.at;
    }

-- reading goes on after what was read of the block
pub rest-behind : {A : Type 0} (left left' : ℕ) (h : HeadView) (old mid new : ReaderState) (r : Result A Fault)
    → GoesOn (after_record left) (after_record left') (ahead old) (ahead mid) → mid.failures ≡ old.failures
    → ReadsRest left' h mid new r → ReadsRest left h old new r
rest-behind left left' h old mid new r g e s = grind arith

-- after a digest of what is left, only the closing is left
pub behind-digest : (left : ℕ) (start digest : List ℕ) (before after : Option (List ℕ))
    → Reads (digest_of_rest left start) (Ok digest) before after
    → GoesOn (after_record left) (after_record 0) before after
behind-digest left start digest before after r = grind (arith, digest-then)

-- what was hashed, where the bytes are known
pub digest-known : (left : ℕ) (start digest : List ℕ) (before after : Option (List ℕ))
    → Reads (digest_of_rest left start) (Ok digest) before after
    → IfSome before (λ bytes. digest ≡ sha1 (start ++ take left bytes))
digest-known left start digest before after r = grind (arith, digest-then)

-- ---- what the capture is

module _ (limits : Limits) (h : HeadView) (front payload bytes digest : List ℕ) (response : Option ResponseValue) where
  abbrev pub more : List ℕ
  more = take (h.parts.block_length - length front) bytes

  -- what the block gives
  pub block-is : (given : BlockValue) → given ≡ block_of h response digest → PartsBlock limits h front response payload
      → digest ≡ digest_of h (payload ++ more)
      → IsBlockOf limits.http_head limits.http_fields h (take h.parts.block_length (front ++ bytes)) given
  block-is given e p d =
      let block : take h.parts.block_length (front ++ bytes) ≡ front
      ++ more = take_past h.parts.block_length front bytes p.within in
      let few : length more ≤ h.parts.block_length - length front = grind (arith, length-take) in
      grind (arith)

-- ---- what a call that closes a block gives

module _ (left : ℕ) (h : HeadView) (old new : ReaderState) (mime : List ℕ) where
  pub rest-given : (r : Result BlockParts Fault) → ReadsRest left h old new r
      → ReadsRest left h old new (block_given mime r)
  rest-given (Ok block) s = record { reads = s.reads; fault = tt }
  rest-given (Err f) s = record { reads = s.reads; fault = s.fault }

pub filled-given : (mime : List ℕ) (r : Result BlockParts Fault) → IfOk r (λ block. IsFilled (block_view mime block))
    → IfOk (block_given mime r) IsFilled
filled-given mime (Ok block) s = s
filled-given mime (Err f) s = tt

pub block-given : (limits : Limits) (h : HeadView) (front payload digest : List ℕ) (response : Option ResponseValue)
    (mime : List ℕ) (before : Option (List ℕ)) (r : Result BlockParts Fault)
    → PartsBlock limits h front response payload
    → IfOk r (λ block. block_view mime block ≡ block_of h response digest)
    → IfSome before (λ bytes. digest ≡ digest_of h (payload ++ take (h.parts.block_length - length front) bytes))
    → GivesBehind limits h front before (block_given mime r)
block-given limits h front payload digest response mime None r p b d = tt
block-given limits h front payload digest response mime (Some bytes) (Ok block) p b d =
    block-is limits h front payload bytes digest response (block_view mime block) b p d
block-given limits h front payload digest response mime (Some bytes) (Err f) p b d = tt

-- what a record's block gives is what the record does
pub parts-given : (limits : Limits) (h : HeadView) (url : Option (List ℕ)) (under : List ℕ) (given : BlockValue)
    (before : Option (List ℕ)) (parts : PartsValue) → url ≡ Some under → parts ≡ parts_of h under given
    → GivesBehind limits h [] before (Ok given) → GivesParts url limits h before (Ok (Some parts))
parts-given limits h url under given None parts u e b = tt
parts-given limits h url under given (Some bytes) parts u e b = rw (u, e) (given, b, refl)

-- a record's parts give its capture
capture-under : (url : Option (List ℕ)) (limit few : ℕ) (place : Place) (h : HeadView) (block name : List ℕ)
    (parts : PartsValue) → ArePartsUnder url limit few h block (Some parts)
    → IsCaptureUnder url limit few place h block name (Some (entry_from place name parts))
capture-under None limit few place h block name parts p = absurd (cc)
capture-under (Some url) limit few place h block name parts p = grind arith

under-url : (url : Option (List ℕ)) (limit few : ℕ) (h : HeadView) (block : List ℕ) (parts : PartsValue)
    → ArePartsUnder url limit few h block (Some parts) → IsSome url
under-url None limit few h block parts p = absurd (cc)
under-url (Some url) limit few h block parts p = refl

module _ (url : Option (List ℕ)) (limits : Limits) (place : Place) (h : HeadView) (name : List ℕ) where
  -- the line of what a record gives is that of its capture
  pub captured : (before : Option (List ℕ)) (parts : PartsValue) (held : EntryValue)
      → GivesParts url limits h before (Ok (Some parts))
      → held ≡ entry_from place name parts → Captures url limits place h name before (Ok (Some held))
  captured None parts held p e = tt
  captured (Some bytes) parts held p e = rw e (capture-under url limits.http_head limits.http_fields place h _ name parts p)

  -- or there is none, since it is too long, or its key
  pub refused : (before : Option (List ℕ)) (parts : PartsValue) (fault : CaptureFault)
      → GivesParts url limits h before (Ok (Some parts))
      → AnswersEntry limits.line (entry_from place name parts) (Err fault)
      → Captures url limits place h name before (Err fault)
  refused None parts fault p a = tt
  refused (Some bytes) parts (Archive f) p a = tt
  refused (Some bytes) parts (LineTooLong o) p a =
      (entry_from place name parts, capture-under url limits.http_head limits.http_fields place h _ name parts p, a)
  refused (Some bytes) parts (KeyTooLong o) p a = under-url url limits.http_head limits.http_fields h _ parts p

-- a digest that is settled is that of any payload
pub digest-settled : (h : HeadView) (digest payload : List ℕ) → known_digest h ≡ Some digest → digest
    ≡ digest_of h payload
digest-settled h digest payload e = grind arith

pub digest-made : (h : HeadView) (digest payload : List ℕ) → known_digest h ≡ None → digest ≡ sha1 payload
    → base32_of digest ≡ digest_of h payload
digest-made h digest payload e d = grind arith

pub some-always : {A : Type 0} (o : Option A) (P : A → Type 0) → ((x : A) → P x) → IfSome o P
some-always o P h = grind arith

pub some-then : {A : Type 0} (o : Option A) (P Q : A → Type 0) → ((x : A) → P x → Q x) → IfSome o P → IfSome o Q
some-then o P Q h s = grind arith
