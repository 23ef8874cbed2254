-- What a capture answers.
use Rattle.std.specs.Prelude.{◌≡◌, ℕ, ◌+◌, ◌<◌, ◌≤◌, ⊤, List, ◌++◌, length, take, Option, Some, Result, Ok, Err, IfOk, IfSome}
use Rattle.std.specs.Prelude.{IsSome, option_map}
use Rattle.httparse.specs.Grammar.{ResponseHead}
use Rattle.warc_core.specs.HeadView.{HeadView}
use Rattle.cdxj_core.specs.Entries.{EntryValue, IsGood, line_text}
use Rattle.cdxj_keys.specs.Key.{key_of}
use Rattle.cdxj_core.specs.declared.limit.TheConstants.{LINE_LIMIT}
use Rattle.capture_core.specs.declared.http_head.TheConstants.{HTTP_HEAD_LIMIT, HTTP_FIELD_LIMIT}
use Rattle.capture_core.specs.declared.fault.CaptureFault.{CaptureFault}
use Rattle.capture_core.specs.declared.fault.CaptureFault.TheVariants.{LineTooLong, KeyTooLong}
use Rattle.capture_core.specs.HttpHead.{then_more}
use Rattle.capture_core.specs.Utf8Text.{utf8_text}
use Rattle.warc_core.specs.declared.fault.Fault.{Fault}
use Rattle.capture_core.specs.declared.place.Place.{Place}
use Rattle.capture_core.specs.Capture.{BlockValue, PartsValue, ResponseValue, ArePartsUnder, IsBlockOf, IsHeadFor}
use Rattle.capture_core.specs.Capture.{IsCaptureUnder, response_of, payload_of}

-- the limits of an HTTP head, in bytes and fields, and that of a line, in bytes
pub record Limits : Type 0 where
  pub http_head : ℕ
  pub http_fields : ℕ
  pub line : ℕ

-- The answer is the capture, under this URL, of the record that begins the bytes and stands at this place, within the
-- limit of a line, or says that its line is too long. That a key is too long is said only of a record that is indexed.
abbrev pub IsCaptureOf : Option (List ℕ) → Limits → Place → HeadView → List ℕ → List ℕ
    → Result (Option EntryValue) CaptureFault → Type 0
IsCaptureOf url limits place h name bytes (Ok captured) = IsCaptureUnder url limits.http_head limits.http_fields place h
    (take h.parts.block_length bytes) name captured
IsCaptureOf url limits place h name bytes (Err (LineTooLong o)) =
    (entry : EntryValue) × IsCaptureUnder url limits.http_head limits.http_fields place h
    (take h.parts.block_length bytes) name (Some entry)
    × (limits.line < length (line_text entry))
IsCaptureOf url limits place h name bytes (Err (KeyTooLong o)) = IsSome url
IsCaptureOf url limits place h name bytes (Err other) = ⊤

abbrev pub Captures : Option (List ℕ) → Limits → Place → HeadView → List ℕ → Option (List ℕ)
    → Result (Option EntryValue) CaptureFault → Type 0
Captures url limits place h name before r = IfSome before (λ bytes. IsCaptureOf url limits place h name bytes r)

-- the answer is what the record that begins the bytes gives to its entry under this URL
abbrev pub GivesParts : Option (List ℕ) → Limits → HeadView → Option (List ℕ) → Result (Option PartsValue) Fault → Type 0
GivesParts url limits h before r = IfSome before (λ bytes. IfOk r
    (ArePartsUnder url limits.http_head limits.http_fields h (take h.parts.block_length bytes)))

-- the answer is what the block of a record gives, where the bytes come after the front of it
abbrev pub GivesBehind : Limits → HeadView → List ℕ → Option (List ℕ) → Result BlockValue Fault → Type 0
GivesBehind limits h front before r = IfSome before (λ bytes. IfOk r
    (IsBlockOf limits.http_head limits.http_fields h (take h.parts.block_length (front ++ bytes))))

abbrev pub usual_limits : Limits
usual_limits = record { http_head = HTTP_HEAD_LIMIT; http_fields = HTTP_FIELD_LIMIT; line = LINE_LIMIT }

-- These first bytes of a record's block are split as the whole block is: the head that was found in them is that of
-- every block that begins with them and is no longer than the record's.
pub record PartsBlock (limits : Limits) (h : HeadView) (front : List ℕ) (response : Option ResponseValue)
    (payload : List ℕ) : Type 0 where
  pub found : Option (ResponseHead × List ℕ)
  pub within : length front ≤ h.parts.block_length
  pub decides : (more : List ℕ) → length front + length more ≤ h.parts.block_length
      → IsHeadFor limits.http_head limits.http_fields h (front ++ more) (then_more more found)
  pub response_is : response ≡ option_map (λ f. response_of f.0) found
  pub payload_is : payload ≡ payload_of front found

-- An entry under this name of this record, at this place, which can be written.
pub record IsEntryOf (place : Place) (h : HeadView) (name : List ℕ) (limit : ℕ) (e : EntryValue) : Type 0 where
  pub good : IsGood e
  pub filename : e.filename ≡ name
  pub key : e.key ≡ key_of e.url
  pub stamp : e.stamp ≡ h.parts.stamp
  pub offset : e.offset ≡ place.offset
  pub size : e.length ≡ place.length
  pub fits : length (line_text e) ≤ limit

-- the answer is this entry, unless its line is too long
abbrev pub AnswersEntry : ℕ → EntryValue → Result EntryValue CaptureFault → Type 0
AnswersEntry limit entry (Ok held) = held ≡ entry
AnswersEntry limit entry (Err (LineTooLong o)) = limit < length (line_text entry)
AnswersEntry limit entry (Err other) = ⊤

-- there is an entry if and only if the head says under which URL, and it has that URL
abbrev pub HasUrl : Option (List ℕ) → Option EntryValue → Type 0
HasUrl url captured = option_map (λ e. e.url) captured ≡ option_map utf8_text url
