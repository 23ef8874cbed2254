pub mod Archives
pub mod Texts
pub mod Answers
pub mod Scans
pub mod Shelf
