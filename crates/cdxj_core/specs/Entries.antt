-- Entries, and the line that an index has of one.
use Rattle.std.specs.Prelude.{◌≡◌, ℕ, ◌^◌, ◌<◌, ◌≤◌, true, List, [], ◌∷◌, ◌++◌, length, decimal}
use Rattle.std.specs.List.{list_all}
use Rattle.std.specs.Str.{IsUtf8}
use Rattle.json.specs.Run.{is_plain}
use Rattle.cdxj_places.specs.Bytes.{line_feed, space}
use Rattle.cdxj_places.specs.Pair.{is_key, is_stamp}
use Rattle.cdxj_places.specs.Pairs.{Pair}
use Rattle.cdxj_places.specs.Places.{PlaceValue}
use Rattle.cdxj_objects.specs.Objects.{object_text}
use Rattle.cdxj_objects.specs.Texts.{TextsValue, text_members}
use Rattle.cdxj_core.specs.declared.entry.KeylessEntry.{KeylessEntry}

-- what an index says of a capture: texts as the lists of their bytes, length and offset in bytes
pub record EntryValue : Type 0 where
  pub key : List ℕ
  pub stamp : List ℕ
  pub url : List ℕ
  pub mime : List ℕ
  pub status : List ℕ
  pub digest : List ℕ
  pub length : ℕ
  pub offset : ℕ
  pub filename : List ℕ

-- what contracts see of a key, and of an entry without one
abbrev pub keyed_view : List ℕ → KeylessEntry → EntryValue
keyed_view key e = record {
  key = key;
  stamp = e.stamp;
  url = e.url.now;
  mime = e.mime.now;
  status = e.status.now;
  digest = e.digest.now;
  length = e.length;
  offset = e.offset;
  filename = e.filename.now;
}

-- texts that strings have
pub record AreUtf8 (e : EntryValue) : Type 0 where
  pub key : IsUtf8 e.key
  pub url : IsUtf8 e.url
  pub mime : IsUtf8 e.mime
  pub status : IsUtf8 e.status
  pub digest : IsUtf8 e.digest
  pub filename : IsUtf8 e.filename

-- an entry that can be written
pub record IsGood (e : EntryValue) : Type 0 where
  pub key : is_key e.key ≡ true
  pub utf8_key : IsUtf8 e.key
  pub stamp : is_stamp e.stamp ≡ true
  pub url : 0 < length e.url
  pub utf8_url : IsUtf8 e.url
  pub mime : 0 < length e.mime
  pub utf8_mime : IsUtf8 e.mime
  pub status : 0 < length e.status
  pub utf8_status : IsUtf8 e.status
  pub digest : 0 < length e.digest
  pub utf8_digest : IsUtf8 e.digest
  pub size : e.length < 2 ^ 63
  pub offset : e.offset < 2 ^ 63
  pub filename : 0 < length e.filename
  pub utf8_filename : IsUtf8 e.filename

-- an entry whose texts need no escapes in its line
pub record HasPlainTexts (e : EntryValue) : Type 0 where
  pub url : list_all is_plain e.url ≡ true
  pub mime : list_all is_plain e.mime ≡ true
  pub status : list_all is_plain e.status ≡ true
  pub digest : list_all is_plain e.digest ≡ true
  pub filename : list_all is_plain e.filename ≡ true

abbrev pub entry_place : EntryValue → PlaceValue
entry_place e = record { key = e.key; stamp = e.stamp; filename = e.filename; offset = e.offset }

abbrev pub entry_pair : EntryValue → Pair
entry_pair e = (e.key, e.stamp)

-- the texts of a written line; numbers are in decimal
abbrev pub entry_texts : EntryValue → TextsValue
entry_texts e = record {
  url = e.url;
  mime = e.mime;
  status = e.status;
  digest = e.digest;
  length = decimal e.length;
  offset = decimal e.offset;
  filename = e.filename;
}

-- its members, in order
abbrev pub members_of : EntryValue → List (List ℕ × List ℕ)
members_of e = text_members (entry_texts e)

-- the line without its line feed
abbrev pub body_text : EntryValue → List ℕ
body_text e = e.key ++ space ∷ (e.stamp ++ space ∷ object_text (members_of e))

-- the line of an entry
abbrev pub line_text : EntryValue → List ℕ
line_text e = body_text e ++ line_feed ∷ []

-- an entry whose line an index can have
abbrev pub HasLine : ℕ → EntryValue → Type 0
HasLine limit e = IsGood e × (length (line_text e) ≤ limit)
