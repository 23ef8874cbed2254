pub mod QueryPages
pub mod WrittenPages
pub mod Collapsings
pub mod PageWriting
pub mod PagesWriting
pub mod WriterView
pub mod Checking
pub mod CheckLaws
pub mod Passes
pub mod Answering
pub mod IndexFaults
pub mod Conversions
pub mod AnswerCounts
pub mod Refusals
pub mod Starts
pub mod Paging
pub mod QueryLaws
pub mod MergeLaws
pub mod OneText
pub mod Fronts
pub mod CountLaws
pub mod RefusalLaws
pub mod ReachLaws
pub mod PartLaws
pub mod PageLines
pub mod NothingAsked
pub mod Replies
pub mod AnyReplies
pub mod Conversations
pub mod ReplyFaults
pub mod Reach
pub mod PagesReach
pub mod ReplyReach
pub mod Limits
-- what contracts see of queries
pub use Rattle.query_text.specs.Collapses
pub use Rattle.query_text.specs.FaultNames
pub use Rattle.query_text.specs.Filters
pub use Rattle.query_text.specs.Matching
pub use Rattle.query_text.specs.Queries
pub use Rattle.query_text.specs.Readings
pub use Rattle.query_text.specs.Resuming
pub use Rattle.query_text.specs.Targets
pub use Rattle.query_text.specs.Values
-- what contracts see of pages
pub use Rattle.page_core.specs.Form
pub use Rattle.page_core.specs.Laws
pub use Rattle.page_core.specs.Pages
pub use Rattle.page_core.specs.PageText
pub use Rattle.page_core.specs.Rows
-- what contracts see of the collection of indexes, and of how far it was read
pub use Rattle.merge_core.specs.Collections
pub use Rattle.merge_core.specs.Counts
pub use Rattle.merge_core.specs.Failures
pub use Rattle.merge_core.specs.LineFaults
pub use Rattle.merge_core.specs.Reached
pub use Rattle.merge_core.specs.Runs
pub use Rattle.merge_core.specs.SourceLines
pub use Rattle.merge_core.specs.Spending
pub use Rattle.merge_core.specs.Written
-- what contracts see of sources
pub use Rattle.source_core.specs.Device as SourceDevice
pub use Rattle.source_core.specs.Files as SourceFiles
pub use Rattle.source_core.specs.Halving
pub use Rattle.source_core.specs.IndexLines
pub use Rattle.source_core.specs.LinesAtFault
pub use Rattle.source_core.specs.Slices
-- what contracts see of lines and places
pub use Rattle.cdxj_core.specs.Indexes
pub use Rattle.cdxj_core.specs.Lines
pub use Rattle.cdxj_core.specs.Members
pub use Rattle.cdxj_places.specs.Pair
pub use Rattle.cdxj_places.specs.Pairs
pub use Rattle.cdxj_places.specs.Places
pub use Rattle.cdxj_places.specs.PlaceViews
pub use Rattle.cdxj_places.specs.Rising
pub use Rattle.cdxj_places.specs.TextLines
-- what contracts see of devices
pub use Rattle.devices.specs.Device
pub use Rattle.devices.specs.FromStd
pub use Rattle.devices.specs.Gathered
pub use Rattle.devices.specs.LineCuts
pub use Rattle.devices.specs.LineReading
pub use Rattle.devices.specs.Prompted
pub use Rattle.devices.specs.Writing
