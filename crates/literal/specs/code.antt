-- What only the code's proofs need.
pub mod SortKey
pub mod Written
pub mod Chunks
