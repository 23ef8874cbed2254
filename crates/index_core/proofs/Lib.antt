pub mod Words
mod ArchiveWalks
mod PlainArchives
pub mod ComingLemmas
pub mod ReportLemmas
pub mod VerdictLemmas
pub mod IndexLemmas
pub mod AddingLemmas
mod NameLemmas
pub mod SoundLemmas
mod CopyLemmas
mod OneRecordTexts
mod FetchLemmas
mod FetchAtLemmas
mod MemberFetchLemmas
mod FetchedLemmas
mod OffsetLemmas
pub mod LimitLemmas
mod AcceptedLemmas
mod FormLemmas
mod OneTextLemmas
mod OneRecordLemmas
mod OneAddLemmas
mod FailedLemmas
pub mod PackedRowLemmas
pub mod PackedCaptureLemmas
pub mod PackedPlaceLemmas
pub mod PackedFetchLemmas
pub mod FormListLemmas
pub mod MemberRowLemmas
pub mod GrownLemmas
pub mod MemberOneText
mod CallLemmas
