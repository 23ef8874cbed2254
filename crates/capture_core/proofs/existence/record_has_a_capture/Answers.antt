use Rattle.capture_core.specs.Types.{includes}
use Rattle.capture_core.specs.declared.http_head.TheConstants.{HTTP_HEAD_LIMIT, HTTP_FIELD_LIMIT}
use Rattle.capture_core.proofs.Captures.{some_capture}
use Rattle.capture_core.proofs.existence.record_has_a_capture.Goals as goal

pub returns : goal.returns
returns c =
    some_capture (includes c.args.types) HTTP_HEAD_LIMIT HTTP_FIELD_LIMIT c.args.head.now c.args.block.now
    c.args.name.now
    c.part-parted.ensures.parts.0 c.part-parted.ensures.parts.1
