pub mod Report
pub mod Listing
pub mod Verifying
pub mod Indexing
pub mod Accepted
pub mod Adding
pub mod FaultNames
pub mod Fetching
pub mod FetchingAt
pub mod FetchingIn
pub mod Copying
pub mod OneRecord
pub mod Counting
pub mod Laws
pub mod FetchingLaws
pub mod RecordLaws
pub mod MemberLaws
pub mod PackedLaws
pub mod PackedFetching
pub mod OneText
pub mod Limits
-- what contracts see of archives
pub use Rattle.archives.specs.Captures
pub use Rattle.archives.specs.Contents
pub use Rattle.archives.specs.Form
pub use Rattle.archives.specs.Packing
pub use Rattle.archives.specs.Plain
pub use Rattle.archives.specs.State
pub use Rattle.archives.specs.Walking
-- what contracts see of records
pub use Rattle.warc_core.specs.Answers
pub use Rattle.warc_core.specs.HeadView
pub use Rattle.warc_core.specs.Kind
pub use Rattle.warc_core.specs.Reading
pub use Rattle.warc_core.specs.ReaderView
pub use Rattle.warc_core.specs.RecordText
pub use Rattle.warc_core.specs.Walk
-- what contracts see of captures
pub use Rattle.capture_core.specs.Capture
pub use Rattle.capture_core.specs.CaptureAnswer
pub use Rattle.capture_core.specs.Fault
pub use Rattle.capture_core.specs.Types
-- what contracts see of entries and indexes
pub use Rattle.cdxj_core.specs.Entries
pub use Rattle.cdxj_core.specs.Indexes
pub use Rattle.cdxj_core.specs.Members
pub use Rattle.cdxj_places.specs.Places
pub use Rattle.cdxj_places.specs.Rising
-- what contracts see of devices
pub use Rattle.devices.specs.Device
pub use Rattle.devices.specs.Files
pub use Rattle.devices.specs.Positions
pub use Rattle.devices.specs.FromStd
pub use Rattle.devices.specs.Gathered
pub use Rattle.devices.specs.Writing
pub mod CallLaws
