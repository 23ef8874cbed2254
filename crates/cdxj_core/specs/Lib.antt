pub mod Entries
pub mod Fields
pub mod Lines
pub mod Members
pub mod KeptLine
pub mod Indexes
-- what contracts see of a line's object
pub use Rattle.cdxj_objects.specs.ObjectMembers
pub use Rattle.cdxj_objects.specs.Texts
pub use Rattle.cdxj_objects.specs.Objects
pub use Rattle.cdxj_objects.specs.MemberValues
pub use Rattle.cdxj_objects.specs.FoundMembers
pub use Rattle.cdxj_objects.specs.FoundViews
pub use Rattle.cdxj_objects.specs.Plain
pub use Rattle.cdxj_objects.specs.PlacedMembers
pub use Rattle.cdxj_objects.specs.Spans
pub use Rattle.cdxj_objects.specs.Spelling
-- what contracts see of places
pub use Rattle.cdxj_places.specs.Bytes
pub use Rattle.cdxj_places.specs.Pair
pub use Rattle.cdxj_places.specs.Pairs
pub use Rattle.cdxj_places.specs.Places
pub use Rattle.cdxj_places.specs.PlaceViews
pub use Rattle.cdxj_places.specs.Rising
pub use Rattle.cdxj_places.specs.TextLines
-- what contracts see of keys
pub use Rattle.cdxj_keys.specs.Key
pub mod ReadLine
