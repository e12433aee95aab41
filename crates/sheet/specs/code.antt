-- What only the code's proofs need.
pub mod Header
pub mod Post
