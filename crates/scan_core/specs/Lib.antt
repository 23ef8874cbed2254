pub mod Archives
pub mod Captures
pub mod Scanning
pub mod Failures
pub mod Laws
pub mod Limits
-- what contracts see of archives
pub use Rattle.archives.specs.Packing
pub use Rattle.archives.specs.State
-- what contracts see of records and captures
pub use Rattle.warc_core.specs.Kind
pub use Rattle.capture_core.specs.CaptureAnswer
pub use Rattle.capture_core.specs.Types
pub use Rattle.index_core.specs.Accepted
pub use Rattle.index_core.specs.Counting
pub use Rattle.index_core.specs.Indexing
-- what contracts see of entries, lines and places
pub use Rattle.cdxj_core.specs.Entries
pub use Rattle.cdxj_core.specs.Members
pub use Rattle.cdxj_places.specs.Places
pub use Rattle.cdxj_places.specs.Rising
-- what contracts see of queries and their pages
pub use Rattle.merge_core.specs.Collections
pub use Rattle.page_core.specs.Pages
pub use Rattle.query_core.specs.Paging
pub use Rattle.query_core.specs.QueryLaws
pub use Rattle.query_core.specs.QueryPages
pub use Rattle.query_text.specs.Collapses
pub use Rattle.query_text.specs.Matching
pub use Rattle.query_text.specs.Queries
-- what contracts see of devices
pub use Rattle.devices.specs.Device
pub use Rattle.devices.specs.Gathered
pub mod CaptureLaws
pub mod FaultLaws
