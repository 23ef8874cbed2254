pub mod Bytes
pub mod Key
pub mod PlainUrls
