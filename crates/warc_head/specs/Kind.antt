-- The types of records (ISO 28500:2017, clause 6; the field: 5.5).
use Rattle.std.specs.Prelude.{ℕ, List, codes, if◌then◌else◌}
use Rattle.warc_head.specs.declared.kind.Kind.{Kind}
use Rattle.warc_head.specs.declared.kind.Kind.TheVariants as kinds
use Rattle.warc_head.specs.Names.{same_name}

-- the name of a type, in lower case
abbrev pub kind_name : Kind → List ℕ
kind_name kinds.Warcinfo = codes "warcinfo"
kind_name kinds.Response = codes "response"
kind_name kinds.Resource = codes "resource"
kind_name kinds.Request = codes "request"
kind_name kinds.Metadata = codes "metadata"
kind_name kinds.Revisit = codes "revisit"
kind_name kinds.Conversion = codes "conversion"
kind_name kinds.Continuation = codes "continuation"
kind_name kinds.Other = codes "other"

-- the type that a value names, without regard to case
unfoldable pub kind_of : List ℕ → Kind
kind_of value =
    if same_name value (codes "warcinfo") then kinds.Warcinfo
    else (if same_name value (codes "response") then kinds.Response
    else (if same_name value (codes "resource") then kinds.Resource
    else (if same_name value (codes "request") then kinds.Request
    else (if same_name value (codes "metadata") then kinds.Metadata
    else (if same_name value (codes "revisit") then kinds.Revisit
    else (if same_name value (codes "conversion") then kinds.Conversion
    else (if same_name value (codes "continuation") then kinds.Continuation
    else kinds.Other)))))))
