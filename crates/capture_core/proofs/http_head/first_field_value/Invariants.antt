use Rattle.std.proofs.Common.{◌≡◌, drop, map}
use Rattle.httparse.specs.Spans.{header_bytes}
use Rattle.capture_core.specs.HttpHead.{first_field_value}
use Rattle.capture_core.proofs.http_head.first_field_value.Given as goal

abbrev pub invariant-loop-field : goal.invariant-loop-field
invariant-loop-field l =
    first_field_value l.name (map (header_bytes l.bytes) (drop l.field-index l.fields))
    ≡ first_field_value l.name (map (header_bytes l.bytes) l.fields)
