pub mod ObjectMembers
pub mod Texts
pub mod Objects
pub mod MemberValues
pub mod FoundMembers
pub mod FoundViews
pub mod Plain
pub mod Spans
pub mod PlainPlaces
pub mod Spelling
pub mod Walk
pub mod PlacedMembers
-- what contracts see of bytes and stamps
pub use Rattle.cdxj_places.specs.Bytes
pub use Rattle.cdxj_places.specs.Pair
pub use Rattle.cdxj_places.specs.Places
