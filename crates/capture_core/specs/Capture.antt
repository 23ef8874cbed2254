-- The capture of a record: the entry that an index has of it.
use Rattle.std.specs.Prelude.{◌≡◌, ℕ, ◌+◌, ◌/◌, ◌%◌, ◌^◌, ◌<◌, [], ◌∷◌, Bool, cond, List, Option, Some, None, option_map, length}
use Rattle.std.specs.Prelude.{unwrap_or, codes, true}
use Rattle.std.specs.List.{list_all}
use Rattle.json.specs.Run.{is_plain}
use Rattle.httparse.specs.Grammar.{ResponseHead, status_code}
use Rattle.sha1.specs.Sha1.{sha1}
use Rattle.warc_head.specs.Bytes.{digit_0}
use Rattle.warc_core.specs.Kind.{Kind}
use Rattle.warc_core.specs.Kind.kinds
use Rattle.warc_core.specs.HeadView.{HeadView, record_length}
use Rattle.cdxj_core.specs.Entries.{EntryValue}
use Rattle.cdxj_keys.specs.Key.{key_of}
use Rattle.cdxj_places.specs.Pair.{is_stamp}
use Rattle.cdxj_core.specs.Texts.{missing, or_missing}
use Rattle.warc_core.specs.Base32.{base32_of}
use Rattle.capture_core.specs.HttpHead.{IsHeadOf, field_of}
use Rattle.capture_core.specs.Indexed.{field, url_of, is_http_record, may_have_head, given_digest}
use Rattle.capture_core.specs.FieldValue.{media_type}
use Rattle.capture_core.specs.Utf8Text.{utf8_text}
use Rattle.capture_core.specs.declared.entry_line.EntryFrame.{EntryFrame}
use Rattle.capture_core.specs.declared.entry_line.EntryTexts.{EntryTexts}
use Rattle.capture_core.specs.declared.entry_line.RawTexts.{RawTexts}
use Rattle.capture_core.specs.declared.place.Place.{Place}

-- what an entry takes from an HTTP head: the status code, and the first Content-Type
pub record ResponseValue : Type 0 where
  pub code : ℕ
  pub content_type : Option (List ℕ)

abbrev pub response_of : ResponseHead → ResponseValue
response_of h = record { code = status_code h; content_type = field_of (codes "content-type") h }

-- the media type that a field names, `-` where it names none
abbrev pub media_of : Option (List ℕ) → List ℕ
media_of None = missing
media_of (Some value) = or_missing (media_type value)

-- by the HTTP head, or by the record's own Content-Type where the record isn't marked HTTP
unfoldable pub content_of : HeadView → Option ResponseValue → List ℕ
content_of h (Some response) = media_of response.content_type
content_of h None = cond (is_http_record h) missing (media_of (field (codes "Content-Type") h))

-- the media type
abbrev pub mime_in : Kind → List ℕ → List ℕ
mime_in kinds.Revisit content = codes "warc/revisit"
mime_in kind content = content

abbrev pub mime_of : HeadView → Option ResponseValue → List ℕ
mime_of h response = mime_in h.parts.kind (content_of h response)

-- a status code in three digits (RFC 9110, section 15)
abbrev pub three_digits : ℕ → List ℕ
three_digits code = (digit_0 + code / 100) ∷ (digit_0 + code / 10 % 10) ∷ (digit_0 + code % 10) ∷ []

-- the status
abbrev pub status_of : Option ℕ → List ℕ
status_of None = missing
status_of (Some code) = three_digits code

-- the digest that no payload is needed for: the one that is given, or of a revisit none
abbrev pub settled_in : Kind → Option (List ℕ) → Option (List ℕ)
settled_in kind (Some given) = Some given
settled_in kinds.Revisit None = Some missing
settled_in kind None = None

abbrev pub known_digest : HeadView → Option (List ℕ)
known_digest h = settled_in h.parts.kind (given_digest h)

-- the digest of a record with this payload
abbrev pub digest_of : HeadView → List ℕ → List ℕ
digest_of h payload = unwrap_or (known_digest h) (base32_of (sha1 payload))

-- what a record's block gives to its entry, with what the head says of it
pub record BlockValue : Type 0 where
  pub mime : List ℕ
  pub code : Option ℕ
  pub digest : List ℕ

-- the same, by what was found in the block
abbrev pub block_of : HeadView → Option ResponseValue → List ℕ → BlockValue
block_of h response digest = record {
  mime = mime_of h response;
  code = option_map (λ r. r.code) response;
  digest = digest;
}

-- what a record gives to its entry
pub record PartsValue : Type 0 where
  pub stamp : List ℕ
  pub url : List ℕ
  pub mime : List ℕ
  pub code : Option ℕ
  pub digest : List ℕ

-- the same, by its head, the URL that it is indexed under and its block
abbrev pub parts_of : HeadView → List ℕ → BlockValue → PartsValue
parts_of h url block = record {
  stamp = h.parts.stamp;
  url = url;
  mime = block.mime;
  code = block.code;
  digest = block.digest;
}

-- the entry of a record that stands at this place of the archive of this name
abbrev pub entry_from : Place → List ℕ → PartsValue → EntryValue
entry_from place name parts = record {
  key = key_of (utf8_text parts.url);
  stamp = parts.stamp;
  url = utf8_text parts.url;
  mime = utf8_text parts.mime;
  status = status_of parts.code;
  digest = utf8_text parts.digest;
  length = place.length;
  offset = place.offset;
  filename = name;
}

-- the entry of a record, by its place, its head and what was found in its block
abbrev pub entry_of : Place → HeadView → List ℕ → Option ResponseValue → List ℕ → List ℕ → EntryValue
entry_of place h name response digest url = entry_from place name (parts_of h url (block_of h response digest))

-- in a plain archive a record stands where its head begins
abbrev pub plain_place : HeadView → Place
plain_place h = record { offset = h.start; length = record_length h }

-- found is the HTTP head of the record, of at most limit bytes and few fields, with the payload after it
abbrev pub IsHeadFor : ℕ → ℕ → HeadView → List ℕ → Option (ResponseHead × List ℕ) → Type 0
IsHeadFor limit few h block found = cond (may_have_head h) (IsHeadOf limit few block found) (found ≡ None)

-- the block after its HTTP head
abbrev pub payload_of : List ℕ → Option (ResponseHead × List ℕ) → List ℕ
payload_of block None = block
payload_of block (Some found) = found.1

-- what the block of a record gives to its entry
abbrev pub IsBlockOf : ℕ → ℕ → HeadView → List ℕ → BlockValue → Type 0
IsBlockOf limit few h block given = (found : Option (ResponseHead × List ℕ)) × IsHeadFor limit few h block found
    × (given ≡ block_of h (option_map (λ f. response_of f.0) found) (digest_of h (payload_of block found)))

-- what a record gives to its entry under this URL, or None where it isn't indexed
abbrev pub ArePartsUnder : Option (List ℕ) → ℕ → ℕ → HeadView → List ℕ → Option PartsValue → Type 0
ArePartsUnder None limit few h block parts = parts ≡ None
ArePartsUnder (Some url) limit few h block parts = (given : BlockValue) × IsBlockOf limit few h block given
    × (parts ≡ Some (parts_of h url given))

-- the capture of a record under this URL, or None where it isn't indexed
abbrev pub IsCaptureUnder : Option (List ℕ) → ℕ → ℕ → Place → HeadView → List ℕ → List ℕ → Option EntryValue → Type 0
IsCaptureUnder None limit few place h block name captured = captured ≡ None
IsCaptureUnder (Some url) limit few place h block name captured =
    (found : Option (ResponseHead × List ℕ)) × IsHeadFor limit few h block found
    × (captured ≡ Some (entry_of place h name (option_map (λ f. response_of f.0) found)
    (digest_of h (payload_of block found)) url))

-- captured is the capture of the record with this head and block at this place, under a file name
abbrev pub IsCapture : (Kind → Bool) → ℕ → ℕ → Place → HeadView → List ℕ → List ℕ → Option EntryValue → Type 0
IsCapture types limit few place h block name captured =
    IsCaptureUnder (url_of types h) limit few place h block name captured

-- a record has one capture
abbrev pub OneCapture : Type 0
OneCapture = (types : Kind → Bool) (limit few : ℕ) (place : Place) (h : HeadView) (block name : List ℕ)
    (a b : Option EntryValue)
    → IsCapture types limit few place h block name a → IsCapture types limit few place h block name b → a ≡ b

-- a record has a capture wherever it stands, or isn't indexed
abbrev pub HasCapture : (Kind → Bool) → ℕ → ℕ → HeadView → List ℕ → List ℕ → Type 0
HasCapture types limit few h block name = (place : Place) → (captured : Option EntryValue)
    × IsCapture types limit few place h block name captured

-- what every block gives, so that an entry has no empty text
pub record IsFilled (block : BlockValue) : Type 0 where
  pub mime : 0 < length block.mime
  pub three_digits : (code : ℕ) → block.code ≡ Some code → code < 1000
  pub digest : 0 < length block.digest

-- ---- the texts of an entry, before it is written

-- texts of which none is empty
pub record AreFilled (texts : EntryTexts) : Type 0 where
  pub url : 0 < length texts.url.now
  pub mime : 0 < length texts.mime.now
  pub status : 0 < length texts.status.now
  pub digest : 0 < length texts.digest.now

-- what every record and its archive give to an entry
pub record IsFrame (frame : EntryFrame) : Type 0 where
  pub stamp : is_stamp frame.stamp ≡ true
  pub named : 0 < length frame.name.now
  pub offset : frame.place.offset < 2 ^ 63
  pub size : frame.place.length < 2 ^ 63

-- stored texts of which none is empty, with a status that needs no escape
pub record AreRawFilled (raw : RawTexts) : Type 0 where
  pub url : 0 < length raw.url.now
  pub mime : 0 < length raw.mime.now
  pub status : 0 < length raw.status.now
  pub plain_status : list_all is_plain raw.status.now ≡ true
  pub digest : 0 < length raw.digest.now

-- texts that need no escapes, as the archive's name
pub record ArePlain (name : List ℕ) (texts : EntryTexts) : Type 0 where
  pub url : list_all is_plain texts.url.now ≡ true
  pub mime : list_all is_plain texts.mime.now ≡ true
  pub status : list_all is_plain texts.status.now ≡ true
  pub digest : list_all is_plain texts.digest.now ≡ true
  pub filename : list_all is_plain name ≡ true

-- the entry with these texts
abbrev pub entry_with : EntryFrame → EntryTexts → EntryValue
entry_with frame texts = record {
  key = key_of texts.url.now;
  stamp = frame.stamp;
  url = texts.url.now;
  mime = texts.mime.now;
  status = texts.status.now;
  digest = texts.digest.now;
  length = frame.place.length;
  offset = frame.place.offset;
  filename = frame.name.now;
}

-- the same, of values that may not be UTF-8
abbrev pub entry_of_raw : EntryFrame → RawTexts → EntryValue
entry_of_raw frame raw = record {
  key = key_of (utf8_text raw.url.now);
  stamp = frame.stamp;
  url = utf8_text raw.url.now;
  mime = utf8_text raw.mime.now;
  status = raw.status.now;
  digest = utf8_text raw.digest.now;
  length = frame.place.length;
  offset = frame.place.offset;
  filename = frame.name.now;
}
