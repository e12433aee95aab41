-- What only the code's proofs need.
pub mod Distinct
pub mod Depths
pub mod Passes
pub mod NameOrder
pub mod Sound
