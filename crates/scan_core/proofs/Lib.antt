pub mod ArchiveLemmas
pub mod WantLemmas
pub mod ScanLemmas
pub mod DropLemmas
pub mod RowLemmas
pub mod CaptureLemmas
pub mod FaultLemmas
