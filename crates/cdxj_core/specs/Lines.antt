-- What a line of an index says, for any limit of a line's bytes.
use Rattle.std.specs.Prelude.{ℕ, ◌&&◌, ◌==◌, Bool, not, nat_lt, List, take, length, ◌-◌, slice_index}
use Rattle.std.specs.Prelude.{decimal, Option, None, option_map, option_and_then, if◌then◌else◌}
use Rattle.std.specs.List.{list_all, before_first, after_first}
use Rattle.std.specs.Str.Parse.{digits_value}
use Rattle.serde_json.specs.Data.{Data}
use Rattle.serde_json.specs.Read.{read}
use Rattle.serde_json.specs.Find.{get}
use Rattle.cdxj_core.specs.declared.field.Field.{Field}
use Rattle.cdxj_core.specs.declared.field.Field.TheVariants.{Urlkey, Timestamp, Original, Mimetype, Statuscode, Digest}
use Rattle.cdxj_core.specs.declared.field.Field.TheVariants.{Length, Offset, Filename}
use Rattle.cdxj_places.specs.Bytes.{line_feed}
use Rattle.cdxj_places.specs.Pair.{is_space, is_key, is_stamp}
use Rattle.cdxj_places.specs.Places.{PlaceValue}
use Rattle.cdxj_objects.specs.MemberValues.{value_text, filename_value, offset_value}
use Rattle.cdxj_objects.specs.ObjectMembers.{map_members, names}
use Rattle.cdxj_objects.specs.Texts.{TextsValue}
use Rattle.cdxj_core.specs.Entries.{EntryValue, entry_texts}

-- the nine values of a line; the offset is a number, all others are texts
pub record LineValue : Type 0 where
  pub key : List ℕ
  pub stamp : List ℕ
  pub original : List ℕ
  pub mimetype : List ℕ
  pub statuscode : List ℕ
  pub digest : List ℕ
  pub length : List ℕ
  pub offset : ℕ
  pub filename : List ℕ

-- the value of a field
abbrev pub field_value : Field → LineValue → List ℕ
field_value Urlkey l = l.key
field_value Timestamp l = l.stamp
field_value Original l = l.original
field_value Mimetype l = l.mimetype
field_value Statuscode l = l.statuscode
field_value Digest l = l.digest
field_value Length l = l.length
field_value Offset l = decimal l.offset
field_value Filename l = l.filename

-- the place of a line
abbrev pub line_place : LineValue → PlaceValue
line_place l = record { key = l.key; stamp = l.stamp; filename = l.filename; offset = l.offset }

-- the values of a pair, the texts of the members and an offset
abbrev pub line_value : List ℕ → List ℕ → TextsValue → ℕ → LineValue
line_value key stamp texts offset = record {
  key = key;
  stamp = stamp;
  original = texts.url;
  mimetype = texts.mime;
  statuscode = texts.status;
  digest = texts.digest;
  length = texts.length;
  offset = offset;
  filename = texts.filename;
}

-- the texts of the members that have these values
abbrev pub texts_in : LineValue → TextsValue
texts_in v = record {
  url = v.original;
  mime = v.mimetype;
  status = v.statuscode;
  digest = v.digest;
  length = v.length;
  offset = decimal v.offset;
  filename = v.filename;
}

-- the values that the line of a good entry has
abbrev pub entry_values : EntryValue → LineValue
entry_values e = line_value e.key e.stamp (entry_texts e) e.offset

-- the entry with these values
abbrev pub entry_of_values : LineValue → EntryValue
entry_of_values l = record {
  key = l.key;
  stamp = l.stamp;
  url = l.original;
  mime = l.mimetype;
  status = l.statuscode;
  digest = l.digest;
  length = digits_value 10 l.length;
  offset = l.offset;
  filename = l.filename;
}

-- the texts of an object's members
abbrev pub texts_of : Data → List ℕ → ℕ → TextsValue
texts_of d filename offset =
    record (map_members (λ name. value_text (get name d)) names) {
      offset = decimal offset;
      filename = filename;
    }

-- the values of an object after a pair
abbrev pub object_values : List ℕ → List ℕ → Data → List ℕ → ℕ → LineValue
object_values key stamp d filename offset = line_value key stamp (texts_of d filename offset) offset

-- the same, where the file name and the offset are good
abbrev pub line_from : List ℕ → List ℕ → Data → Option LineValue
line_from key stamp d =
    option_and_then (λ filename. option_map (object_values key stamp d filename)
    (offset_value (get names.offset d))) (filename_value (get names.filename d))

-- the line without a line feed at its end
abbrev pub body_of : List ℕ → List ℕ
body_of line =
    if slice_index line (length line - 1) == line_feed then take (length line - 1) line else line

abbrev pub has_no_feed : List ℕ → Bool
has_no_feed text = list_all (λ b. not (b == line_feed)) text

-- the values of the text of an object after a pair
abbrev pub line_object : List ℕ → List ℕ → List ℕ → Option LineValue
line_object key stamp text = option_and_then (line_from key stamp) (read text)

-- the values of a body that was cut at its first two spaces
abbrev pub line_parts : List ℕ → List ℕ → List ℕ → Option LineValue
line_parts key stamp text =
    if is_key key && is_stamp stamp then line_object key stamp text else None

-- The values of a line without its line feed; the limit counts the line feed.
unfoldable pub line_in : ℕ → List ℕ → Option LineValue
line_in limit body =
    if nat_lt (length body) limit && has_no_feed body
    then line_parts (before_first is_space body)
    (before_first is_space (after_first is_space body))
    (after_first is_space (after_first is_space body))
    else None
