pub mod Copies
pub mod Putting
pub mod Keeping
