-- What only the code's proofs need.
pub mod Decimals
pub mod Written
