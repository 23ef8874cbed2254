pub mod HttpHead
pub mod Utf8Text
pub mod FieldValue
pub mod Types
pub mod Indexed
pub mod Capture
pub mod BlockParts
pub mod ResponseView
pub mod Fault
pub mod RecordReading
pub mod CaptureAnswer
pub mod CaptureSteps
pub mod Spelling
pub mod Limits
-- what contracts see of digests
pub use Rattle.warc_core.specs.Base32
pub use Rattle.warc_core.specs.BlockDigest
pub use Rattle.warc_core.specs.RestDigest
-- what contracts see of records
pub use Rattle.warc_core.specs.Answers
pub use Rattle.warc_core.specs.Calls
pub use Rattle.warc_core.specs.Cause
pub use Rattle.warc_core.specs.HeadView
pub use Rattle.warc_core.specs.Kind
pub use Rattle.warc_core.specs.Reading
pub use Rattle.warc_core.specs.ReaderView
-- what contracts see of entries
pub use Rattle.cdxj_core.specs.Entries
-- what contracts see of inputs
pub use Rattle.warc_core.specs.Device
pub use Rattle.warc_core.specs.FromStd
pub use Rattle.warc_core.specs.Files
pub use Rattle.warc_core.specs.Positions
