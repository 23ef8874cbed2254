-- What contracts see of the parts of a block.
use Rattle.std.specs.Prelude.{List, ℕ, Result, Ok, Err}
use Rattle.warc_core.specs.declared.fault.Fault.{Fault}
use Rattle.capture_core.specs.declared.payload_digest.PayloadDigest.{PayloadDigest}
use Rattle.capture_core.specs.declared.payload_digest.PayloadDigest.TheVariants.{Known, Hashed}
use Rattle.capture_core.specs.declared.block_parts.BlockParts.{BlockParts}
use Rattle.capture_core.specs.Capture.{BlockValue}

abbrev pub digest_text : PayloadDigest → List ℕ
digest_text (Known text) = text.now
digest_text (Hashed text) = text

-- the parts of a block, with their media type
abbrev pub block_view : List ℕ → BlockParts → BlockValue
block_view mime block = record { mime = mime; code = block.code; digest = digest_text block.digest }

-- what a call that answers such parts gives, with the media type that it kept
abbrev pub block_given : List ℕ → Result BlockParts Fault → Result BlockValue Fault
block_given mime (Ok block) = Ok (block_view mime block)
block_given mime (Err f) = Err f
