pub mod Lists
pub mod Refusal
pub mod Lent
pub mod Insertion
pub mod code
