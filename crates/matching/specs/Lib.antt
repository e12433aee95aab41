pub mod Matching
pub mod Reading
pub mod code
