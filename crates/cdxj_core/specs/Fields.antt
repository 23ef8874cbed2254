-- The names of the fields of a line, by the Wayback CDX Server API.
use Rattle.std.specs.Prelude.{ℕ, List, [], ◌∷◌, codes, bytes_eq, find, Option}
use Rattle.cdxj_core.specs.declared.field.Field.{Field}
use Rattle.cdxj_core.specs.declared.field.Field.TheVariants.{Urlkey, Timestamp, Original, Mimetype, Statuscode, Digest}
use Rattle.cdxj_core.specs.declared.field.Field.TheVariants.{Length, Offset, Filename}

-- the name of a field
abbrev pub field_name : Field → List ℕ
field_name Urlkey = codes "urlkey"
field_name Timestamp = codes "timestamp"
field_name Original = codes "original"
field_name Mimetype = codes "mimetype"
field_name Statuscode = codes "statuscode"
field_name Digest = codes "digest"
field_name Length = codes "length"
field_name Offset = codes "offset"
field_name Filename = codes "filename"

abbrev pub all_fields : List Field
all_fields = Urlkey ∷ Timestamp ∷ Original ∷ Mimetype ∷ Statuscode ∷ Digest ∷ Length ∷ Offset ∷ Filename ∷ []

-- the field of this name
unfoldable pub field_named : List ℕ → Option Field
field_named name = find (λ field. bytes_eq (field_name field) name) all_fields
