pub mod ReadArchives
pub mod ReadPages
