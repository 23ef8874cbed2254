-- What the head of a record says (ISO 28500:2017, clauses 4 to 6).
use Rattle.std.specs.Prelude.{ℕ, ◌-◌, List, length, take, drop, codes, Result, Ok}
use Rattle.warc_head.specs.declared.fault.HeadFault.{HeadFault}
use Rattle.warc_head.specs.declared.kind.Kind.{Kind}
use Rattle.warc_head.specs.Answers.{◌>>=◌}
use Rattle.warc_head.specs.Fields.{Field, fields_of}
use Rattle.warc_head.specs.Mandatory.{each_once, required}
use Rattle.warc_head.specs.Length.{length_of}
use Rattle.warc_head.specs.Date.{stamp_of}
use Rattle.warc_head.specs.Kind.{kind_of}

pub record HeadParts : Type 0 where
  pub kind : Kind
  -- fourteen digits
  pub stamp : List ℕ
  -- in bytes
  pub block_length : ℕ
  -- in the order of their lines
  pub fields : List Field

-- a head's text, and what it says
pub record HeadRead : Type 0 where
  pub raw : List ℕ
  pub parts : HeadParts

unfoldable pub length_in : List Field → Result ℕ HeadFault
length_in fields = required (codes "Content-Length") fields >>= length_of

unfoldable pub stamp_in : List Field → Result (List ℕ) HeadFault
stamp_in fields = required (codes "WARC-Date") fields >>= stamp_of

unfoldable pub kind_in : List Field → Result Kind HeadFault
kind_in fields = required (codes "WARC-Type") fields >>= λ value. Ok (kind_of value)

-- what fields say; their faults in this order
unfoldable pub parts_in : List Field → Result HeadParts HeadFault
parts_in fields = do
  once ← each_once fields
  length ← length_in fields
  stamp ← stamp_in fields
  kind ← kind_in fields
  Ok (record { kind = kind; stamp = stamp; block_length = length; fields = fields })

-- the lines between the version line, of ten bytes, and the empty line; a shorter text has none
abbrev pub field_lines_in : List ℕ → List ℕ
field_lines_in raw = take (length raw - 2 - 10) (drop 10 raw)

-- what the text of a head says: its fields, and what they say
unfoldable pub parts_of : List ℕ → Result HeadParts HeadFault
parts_of raw = fields_of (field_lines_in raw) >>= parts_in
