pub mod ObjectLaw
pub mod TextsLaw
mod LaneLemmas
pub mod PlainBytes
pub mod PlainCuts
pub mod PlainLaw
pub mod PlainPlaces
pub mod JsonReading
pub mod FoundLaw
pub mod SpellingLemmas
pub mod StringLength
pub mod WalkLaw
pub mod EscapeLaw
pub mod WrittenLaw
pub mod BegunLaw
pub mod PlacedLaw
