-- For the code's own proofs.
pub mod Lines
