pub mod Sums
pub mod Stores
pub mod Encoding
pub mod Histories
pub mod Examples
pub mod Answers
