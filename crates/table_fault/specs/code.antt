-- What only the code's proofs need.
pub mod Asking
