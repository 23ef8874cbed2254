-- Which records are indexed, and what their heads say of it (ISO 28500:2017, clauses 5 and 6).
use Rattle.std.specs.Prelude.{ℕ, ◌&&◌, Bool, true, false, List, codes, Option, Some, None, option_and_then}
use Rattle.std.specs.Prelude.{if◌then◌else◌}
use Rattle.warc_core.specs.Kind.{Kind}
use Rattle.warc_core.specs.Kind.kinds
use Rattle.warc_core.specs.Fields.{value_of}
use Rattle.warc_head.specs.Names.{same_name}
use Rattle.warc_core.specs.HeadView.{HeadView}
use Rattle.capture_core.specs.FieldValue.{non_empty, without_brackets, media_type, without_sha1}

-- the value of the head's first field of this name
abbrev pub field : List ℕ → HeadView → Option (List ℕ)
field name h = value_of name h.parts.fields

-- the target of the record, without the brackets that some writers put around it
abbrev pub target_uri : HeadView → Option (List ℕ)
target_uri h = option_and_then (λ value. non_empty (without_brackets value)) (field (codes "WARC-Target-URI") h)

-- the URL under which the record is indexed, where its type is among these and it has a target
abbrev pub url_of : (Kind → Bool) → HeadView → Option (List ℕ)
url_of types h = if types h.parts.kind then target_uri h else None

-- the media type is that of an HTTP message (RFC 9112, section 10.2)
abbrev pub is_http : Option (List ℕ) → Bool
is_http None = false
is_http (Some content_type) = same_name (media_type content_type) (codes "application/http")

-- the record is marked HTTP
abbrev pub is_http_record : HeadView → Bool
is_http_record h = is_http (field (codes "Content-Type") h)

-- records of this type may hold an HTTP response
abbrev pub holds_response : Kind → Bool
holds_response kinds.Response = true
holds_response kinds.Revisit = true
holds_response kind = false

-- the block may begin with an HTTP head
abbrev pub may_have_head : HeadView → Bool
may_have_head h = holds_response h.parts.kind && is_http_record h

-- the payload's digest that the head gives
abbrev pub given_digest : HeadView → Option (List ℕ)
given_digest h = option_and_then (λ value. non_empty (without_sha1 value)) (field (codes "WARC-Payload-Digest") h)
