pub mod DeviceLemmas
pub mod WritingLemmas
pub mod BufferLemmas
pub mod LineFeeds
pub mod InputLineLemmas
pub mod Takings
pub mod PositionLemmas
